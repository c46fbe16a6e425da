use Rattle.thread_tree.proofs.Doubling.{AreTwiceOf}
use Rattle.thread_tree.proofs.loops.twice.Given as goal

abbrev pub invariant-loop-jump : goal.invariant-loop-jump
invariant-loop-jump l = AreTwiceOf l.jumps l.next.items l.jump-index
