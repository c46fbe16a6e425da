use Rattle.thread_model.proofs.Rounds.{linked-sym, thread-linked, linked-thread}
use Rattle.thread_model.proofs.laws.threads_go_back.Goals as goal

pub returns : goal.returns
returns c = λ rows r s in_r h. linked-thread rows s r in_r (linked-sym rows r s (thread-linked rows r s in_r h))
