use Rattle.std.proofs.Common.{◌≡◌, ◌+◌, ◌*◌}
use Rattle.thread_tree.specs.Nodes.{AreTwice}
use Rattle.std.proofs.Common.{subst, arith}
use Rattle.thread_tree.proofs.Doubling.{jumps-far, jumps-twice}
use Rattle.thread_tree.proofs.loops.far_of.Goals as goal

-- src/loops.rt:38:5
pub loop-length-preserved : goal.loop-length-preserved
loop-length-preserved c =
    let m = c.loop-length.length in
    let double : m * 2 ≡ m + m = omega arith in
    jumps-twice c.args.ups.now c.loop-length.jumps.items c.in_ok-jumps.jumps.items m (m * 2) c.requires c.loop-length.invariant
    (subst (λ js. AreTwice js c.in_ok-jumps.jumps.items) c.as_slice.ensures.value c.in_ok-jumps.ensures) double

-- src/loops.rt:31:1
pub returns : goal.returns
returns c = jumps-far c.args.ups.now c.loop-length.jumps.items c.loop-length.length c.requires c.loop-length.invariant c.loop-length-test.false
