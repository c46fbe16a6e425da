use Rattle.store_finding.specs.Files.{as_read}
use Rattle.store_finding.proofs.FindingTold.{where_both}
use Rattle.store_finding.proofs.FindingTurns.{entries_found}
use Rattle.store_finding.proofs.finding.find_entries.Goals as goal

pub returns-in-Ok-clause-found : goal.returns-in-Ok-clause-found
returns-in-Ok-clause-found g c =
    where_both _ _ _ _ _ c.find_records.ensures.reads.same c.in-Ok.ensures.found c.read_epochs.ensures.kept (λ k has keeps. entries_found c.args.root.now c.in-Ok.records c.read_epochs.result (as_read k) c.requires.fits has keeps)
