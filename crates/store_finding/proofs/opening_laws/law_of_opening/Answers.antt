use Rattle.store_finding.proofs.Opened.{opened_recovers, recovers_opened}
use Rattle.store_finding.proofs.Undamaged.{opened_undamaged}
use Rattle.store_finding.proofs.opening_laws.law_of_opening.Goals as goal

pub returns-clause-opened : goal.returns-clause-opened
returns-clause-opened c = recovers_opened c.law_of_records.ensures.differ

pub returns-clause-undamaged : goal.returns-clause-undamaged
returns-clause-undamaged c = opened_undamaged c.law_of_entries.ensures c.law_of_epochs.ensures

pub returns-clause-recovers : goal.returns-clause-recovers
returns-clause-recovers c = opened_recovers
