use Rattle.std.proofs.Common.{◌≤◌, take}
use Rattle.thread_tree.specs.Facts.{PlacesAll}
use Rattle.thread_tree.proofs.facts.note_placings.Given as goal

abbrev pub invariant-loop-i : goal.invariant-loop-i
invariant-loop-i l = record {
  some : 1 ≤ l.i;
  placed : PlacesAll l.initial.placings l.placings l.number (take l.i l.refs);
}
