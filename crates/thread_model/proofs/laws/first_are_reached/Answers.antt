use Rattle.thread_model.proofs.Rounds.{reached-begin}
use Rattle.thread_model.proofs.laws.first_are_reached.Goals as goal

pub returns : goal.returns
returns c = reached-begin
