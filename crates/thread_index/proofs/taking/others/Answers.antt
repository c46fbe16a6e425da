use Rattle.thread_index.proofs.Others.{others-take}
use Rattle.thread_index.proofs.taking.others.Goals as goal

-- src/taking.rt:27:5
pub loop-m-preserved : goal.loop-m-preserved
loop-m-preserved c = others-take c.args.ns.now c.loop-m.m-index 0 c.args.n c.loop-m.found.keys c.put_other.new.others.keys c.loop-m-test.true c.loop-m.invariant c.in_ok-put_other.ensures
