use Rattle.thread_model.proofs.Rounds.{thread-linked, linked-thread}
use Rattle.thread_model.proofs.laws.threads_are_linked.Goals as goal

pub returns : goal.returns
returns c = λ rows r s in_r in_s. (thread-linked rows r s in_r, linked-thread rows r s in_s)
