use Rattle.std.proofs.Common.{◌∙◌, ap, inr}
use Rattle.arch_judge.specs.declared.index.Index.{Index}
use Rattle.store_finding.specs.Kept.{StoreState}
use Rattle.archive_core.specs.Placing.{message_places}
use Rattle.archive_core.proofs.Counting.{live-places-counted}
use Rattle.archive_core.proofs.Openings.{opened_reads, refused_kindly}
use Rattle.archive_core.proofs.counted.CountedArchive.open.Goals as goal

pub returns-in-Err-clause-refused : goal.returns-in-Err-clause-refused
returns-in-Err-clause-refused g c = refused_kindly (StoreState × Index) c.in-Err.refusal (g.D.Disk.content c.args.disk.now) (g.D.Disk.content c.open.new.disk) c.in-Err.ensures.refused

pub returns-in_default-clause-refused : goal.returns-in_default-clause-refused
returns-in_default-clause-refused g c = (
  opened_reads c.law_of_stores.ensures.recovers c.law_of_stores.ensures.exact c.in-Ok.store (g.D.Disk.content c.args.disk.now) (g.D.Disk.content c.open.new.disk) c.in-Ok.ensures.opened.done,
  inr (c.in-Ok.store, c.in-Ok.ensures.opened.answer, c.in-Ok.ensures.opened.kept, c.in-Ok.ensures.opened.done, c.in-Ok.ensures.opened.settled),
)

pub invariant_of-result : goal.invariant_of-result
invariant_of-result g c = c.live_count-live.ensures ∙ live-places-counted c.in-Ok.store.entries c.as_slice.result.now (c.as_slice.ensures.value ∙ c.in-Ok-places_of.ensures ∙ ap (message_places 0) c.stored.ensures)
