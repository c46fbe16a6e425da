use Rattle.std.proofs.lemmas.Result.{IfOk-weaker}
use Rattle.thread_model.proofs.Numbers.{rises-from_sorted}
use Rattle.thread_index.proofs.Shown.{shown-order}
use Rattle.thread_index.proofs.tables.Tables.members.Goals as goal

-- src/tables.rt:87:5
pub returns-clause-members : goal.returns-clause-members
returns-clause-members c =
    IfOk-weaker c.in_order.result _ _
    (λ ordered is. shown-order c.args.self.now.rows.entries c.args.n c.thread_list.result.now ordered (rises-from_sorted _ c.len-count.ensures.ordered) c.thread_list.ensures is)
    c.in_order.ensures
