use Rattle.epoch_store.proofs.Reopening.{opened_stands}
use Rattle.epoch_store.proofs.laws.law_of_opened_files.Goals as goal

pub returns : goal.returns
returns c = record { stands = opened_stands c.law_of_opening.ensures.recovers }
