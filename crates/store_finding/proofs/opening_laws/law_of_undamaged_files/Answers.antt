use Rattle.store_finding.proofs.Opened.{recovers_map}
use Rattle.store_finding.proofs.Recovered.{recovers_undamaged}
use Rattle.store_finding.proofs.opening_laws.law_of_undamaged_files.Goals as goal

pub returns-clause-map : goal.returns-clause-map
returns-clause-map c = recovers_map

pub returns-clause-undamaged : goal.returns-clause-undamaged
returns-clause-undamaged c = recovers_undamaged c.law_of_records.ensures.differ c.law_of_records.ensures.either c.law_of_entries.ensures c.law_of_epochs.ensures
