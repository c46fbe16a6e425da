use Rattle.thread_tree.specs.Nodes.{nodes_in}
use Rattle.thread_tree.proofs.Aboves.{IsIndexSoFar}
use Rattle.thread_tree.proofs.above.index_of.Given as goal

abbrev pub invariant-loop-i : goal.invariant-loop-i
invariant-loop-i l = IsIndexSoFar (nodes_in l.nodes) l.index l.i
