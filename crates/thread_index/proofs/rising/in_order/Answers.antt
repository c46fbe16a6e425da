use Rattle.thread_index.specs.Index.{OrdersNumbers}
use Rattle.thread_index.proofs.Others.{gathered-take}
use Rattle.std.proofs.Common.{sym, subst}
use Rattle.std.proofs.lemmas.Result.{IfOk-weaker}
use Rattle.thread_index.proofs.Others.{in-order}
use Rattle.thread_index.proofs.rising.in_order.Goals as goal

-- src/rising.rt:25:5
pub loop-n-preserved : goal.loop-n-preserved
loop-n-preserved c = gathered-take c.args.ns.now c.loop-n.n-index 0 c.loop-n.set.keys c.insert.new.self.keys c.loop-n-test.true c.loop-n.invariant c.in_ok-insert.ensures.keys c.insert.ensures.ordered

-- src/rising.rt:21:1
pub returns : goal.returns
returns c =
    IfOk-weaker c.numbers_of.result _ _
    (λ numbers e. subst (OrdersNumbers c.args.ns.now) (sym e) (in-order c.args.ns.now c.loop-n.n-index c.loop-n.set.keys c.loop-n-test.false c.loop-n.invariant))
    c.numbers_of.ensures
