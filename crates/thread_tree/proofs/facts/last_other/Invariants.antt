use Rattle.std.proofs.Common.{◌≡◌, ◌≤◌, length, take}
use Rattle.thread_tree.specs.Trees.{last_other}
use Rattle.thread_tree.proofs.facts.last_other.Given as goal

abbrev pub invariant-loop-i : goal.invariant-loop-i
invariant-loop-i l = record {
  within : l.i ≤ length l.refs;
  left : last_other l.refs l.id ≡ last_other (take l.i l.refs) l.id;
}

abbrev pub decreases-loop-i : goal.decreases-loop-i
decreases-loop-i l = l.i
