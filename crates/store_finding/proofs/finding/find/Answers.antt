use Rattle.store_finding.specs.Files.{as_read}
use Rattle.store_finding.proofs.FindingTold.{where_both}
use Rattle.store_finding.proofs.FindingTurns.{damage_found}
use Rattle.store_finding.proofs.finding.find.Goals as goal

pub returns-in-Err-find_entries-clause-found : goal.returns-in-Err-find_entries-clause-found
returns-in-Err-find_entries-clause-found g c =
    where_both _ _ _ _ _ c.find_root.ensures.reads.same c.in-Ok.ensures.found c.in-Err-find_entries.ensures.found (λ k is lacks. damage_found (as_read k) c.in-Ok.slot c.in-Ok.root c.in-Err-find_entries.refusal is lacks)
