use Rattle.std.proofs.Common.{inr}
use Rattle.arch_judge.specs.declared.index.Index.{Index}
use Rattle.store_finding.specs.Kept.{StoreState}
use Rattle.archive_core.proofs.Openings.{opened_reads, refused_kindly}
use Rattle.archive_core.proofs.archive.DiskArchive.open.Goals as goal

pub returns-in-Err-clause-refused : goal.returns-in-Err-clause-refused
returns-in-Err-clause-refused g c = refused_kindly (StoreState × Index) c.in-Err.refusal (g.D.Disk.content c.args.disk.now) (g.D.Disk.content c.open.new.disk) c.in-Err.ensures.refused

pub returns-in_default-clause-refused : goal.returns-in_default-clause-refused
returns-in_default-clause-refused g c = (
  opened_reads c.law_of_stores.ensures.recovers c.law_of_stores.ensures.exact c.in-Ok.opened.0 (g.D.Disk.content c.args.disk.now) (g.D.Disk.content c.open.new.disk) c.in-Ok.ensures.opened.done,
  inr (c.in-Ok.opened.0, c.in-Ok.ensures.opened.answer, c.in-Ok.ensures.opened.kept, c.in-Ok.ensures.opened.done, c.in-Ok.ensures.opened.settled),
)

pub returns-then-not-are_rising-clause-refused : goal.returns-then-not-are_rising-clause-refused
returns-then-not-are_rising-clause-refused g c = (
  opened_reads c.law_of_stores.ensures.recovers c.law_of_stores.ensures.exact c.in-Ok.opened.0 (g.D.Disk.content c.args.disk.now) (g.D.Disk.content c.open.new.disk) c.in-Ok.ensures.opened.done,
  inr (c.in-Ok.opened.0, c.in-Ok.ensures.opened.answer, c.in-Ok.ensures.opened.kept, c.in-Ok.ensures.opened.done, c.in-Ok.ensures.opened.settled),
)
