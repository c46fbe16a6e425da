use Rattle.std.proofs.Common.{◌≡◌, filter}
use Rattle.thread_tree.specs.Nodes.{count_up, flag_at}
use Rattle.thread_tree.proofs.loops.roots_of.Given as goal

abbrev pub invariant-loop-i : goal.invariant-loop-i
invariant-loop-i l = l.roots.items ≡ filter (flag_at l.flags) (count_up l.i)
