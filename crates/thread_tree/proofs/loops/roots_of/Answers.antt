use Rattle.thread_tree.proofs.Stepped.{roots-more}
use Rattle.thread_tree.proofs.loops.roots_of.Goals as goal

-- src/loops.rt:98:5
pub loop-i-preserved : goal.loop-i-preserved
loop-i-preserved c = roots-more c.args.flags.now c.loop-i.roots.items c.push_root.new.roots.items c.loop-i.i c.loop-i-test.true c.loop-i.invariant c.in_ok-push_root.ensures
