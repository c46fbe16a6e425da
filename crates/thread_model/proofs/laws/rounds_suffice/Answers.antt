use Rattle.thread_model.proofs.Rounds.{reached-stable}
use Rattle.thread_model.proofs.laws.rounds_suffice.Goals as goal

pub returns : goal.returns
returns c = reached-stable
