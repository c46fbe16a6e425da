use Rattle.std.proofs.Common.{true}
use Rattle.thread_model.proofs.Rounds.{reached-one}
use Rattle.thread_model.proofs.laws.reached_is_least.Goals as goal

pub returns : goal.returns
returns c = λ rows keys test is first. reached-one rows keys test is true first
