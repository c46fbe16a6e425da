use Rattle.thread_model.proofs.Rounds.{linked-trans, thread-linked, linked-thread, thread-row}
use Rattle.thread_model.proofs.laws.threads_go_on.Goals as goal

pub returns : goal.returns
returns c = λ rows r s t in_r h k.
    linked-thread rows r t (thread-row rows s.1 t k)
    (linked-trans rows r s t (thread-row rows r.1 s h) (thread-linked rows r s in_r h) (thread-linked rows s t (thread-row rows r.1 s h) k))
