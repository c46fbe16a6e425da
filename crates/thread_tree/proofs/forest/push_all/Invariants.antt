use Rattle.std.proofs.Common.{◌≡◌, ◌≤◌, ◌++◌, length, drop}
use Rattle.thread_tree.specs.Nodes.{stacked}
use Rattle.thread_tree.proofs.forest.push_all.Given as goal

abbrev pub invariant-loop-i : goal.invariant-loop-i
invariant-loop-i l = record {
  within : l.i ≤ length l.indices;
  pushed : l.stack.items ≡ l.initial.stack.items ++ stacked l.depth (drop l.i l.indices);
}

abbrev pub decreases-loop-i : goal.decreases-loop-i
decreases-loop-i l = l.i
