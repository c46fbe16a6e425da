use Rattle.thread_tree.specs.Nodes.{AreFar}
use Rattle.std.proofs.Common.{subst, sym, None}
use Rattle.thread_tree.proofs.Marks.{marked-all, marked-take}
use Rattle.thread_tree.proofs.loops.root_flags.Goals as goal

-- src/loops.rt:76:5
pub loop-to-preserved : goal.loop-to-preserved
loop-to-preserved c = marked-take c.args.ups.now c.as_slice-to-items.result.now c.loop-to.to-index None c.loop-to.flags.items c.mark.new.flags.items c.loop-to-test.true c.loop-to.invariant c.mark.ensures

-- src/loops.rt:70:1
pub returns : goal.returns
returns c =
    marked-all c.args.ups.now c.as_slice-to-items.result.now c.loop-to.to-index c.loop-to.flags.items c.loop-to-test.false
    (subst (AreFar c.args.ups.now) (sym c.as_slice-to-items.ensures.value) c.in_ok-far.ensures) c.loop-to.invariant
