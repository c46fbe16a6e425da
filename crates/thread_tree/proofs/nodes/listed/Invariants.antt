use Rattle.std.proofs.Common.{◌≡◌, ◌++◌, length}
use Rattle.thread_tree.proofs.nodes.listed.Given as goal

abbrev pub invariant-loop-node : goal.invariant-loop-node
invariant-loop-node l = l.list.items ++ l.nodes.keys ≡ l.initial.nodes.keys

abbrev pub decreases-loop-node : goal.decreases-loop-node
decreases-loop-node l = length l.nodes.keys
