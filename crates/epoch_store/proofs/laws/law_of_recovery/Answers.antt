use Rattle.epoch_store.proofs.Unique.{recovers_one, recovers_some_one, caches_one}
use Rattle.epoch_store.proofs.laws.law_of_recovery.Goals as goal

pub returns-clause-one : goal.returns-clause-one
returns-clause-one c = recovers_one c.law_of_spellings.ensures.differ c.law_of_records.ensures.differ c.law_of_epochs.ensures

pub returns-clause-some_one : goal.returns-clause-some_one
returns-clause-some_one c = recovers_some_one c.law_of_spellings.ensures.differ c.law_of_records.ensures.differ c.law_of_epochs.ensures

pub returns-clause-caches : goal.returns-clause-caches
returns-clause-caches c = caches_one c.law_of_spellings.ensures.differ
