use Rattle.thread_tree.specs.Nodes.{AreUnder}
use Rattle.thread_tree.proofs.forest.under_lists.Given as goal

abbrev pub invariant-loop-i : goal.invariant-loop-i
invariant-loop-i l = AreUnder l.ups l.flags l.lists.items l.i
