use Rattle.std.proofs.Common.{length, ◌-◌}
use Rattle.thread_tree.specs.Nodes.{under_at}
use Rattle.thread_tree.proofs.Preorder.{IsOnWalk}
use Rattle.thread_tree.proofs.forest.preorder.Given as goal

abbrev pub invariant-loop-depth : goal.invariant-loop-depth
invariant-loop-depth l = IsOnWalk (under_at l.under) l.roots (length l.under) l.lines.items l.stack.items

abbrev pub decreases-loop-depth : goal.decreases-loop-depth
decreases-loop-depth l = length l.under - length l.lines.items
