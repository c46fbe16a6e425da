use Rattle.thread_index.proofs.Moved.{moves-take}
use Rattle.thread_index.proofs.dividing.move_all.Goals as goal

-- src/dividing.rt:41:5
pub loop-n-preserved : goal.loop-n-preserved
loop-n-preserved c = moves-take c.args.ns.now c.loop-n.n-index 0 c.args.pending.now.keys c.loop-n.pending.keys c.move_one.new.pending.keys c.args.part.now.items c.loop-n.part.items c.move_one.new.part.items c.loop-n-test.true c.loop-n.invariant c.in_ok-move_one.ensures
