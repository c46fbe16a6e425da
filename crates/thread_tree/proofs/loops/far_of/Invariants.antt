use Rattle.std.proofs.Common.{length, ◌-◌}
use Rattle.thread_tree.proofs.Doubling.{AreJumps}
use Rattle.thread_tree.proofs.loops.far_of.Given as goal

abbrev pub invariant-loop-length : goal.invariant-loop-length
invariant-loop-length l = AreJumps l.ups l.jumps.items l.length

abbrev pub decreases-loop-length : goal.decreases-loop-length
decreases-loop-length l = length l.ups - l.length
