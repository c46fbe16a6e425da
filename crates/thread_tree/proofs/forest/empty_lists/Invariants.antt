use Rattle.std.proofs.Common.{◌≤◌, ◌-◌}
use Rattle.thread_tree.specs.Nodes.{AreEmpty}
use Rattle.thread_tree.proofs.forest.empty_lists.Given as goal

abbrev pub invariant-loop-made : goal.invariant-loop-made
invariant-loop-made l = record {
  lists : AreEmpty l.lists.items l.made;
  within : l.made ≤ l.count;
}

abbrev pub decreases-loop-made : goal.decreases-loop-made
decreases-loop-made l = l.count - l.made
