use Rattle.std.proofs.Common.{◌≤◌, ◌-◌}
use Rattle.line_door.specs.Acts.{outside}
use Rattle.arch_model.specs.Archives.{Archive, live}
use Rattle.arch_model.specs.Shelves.{ShelfStays}
use Rattle.door_tests.proofs.Parts.{SoFar}
use Rattle.door_tests.proofs.shelf_client.say_texts.Given as goal

abbrev pub invariant-loop-at : goal.invariant-loop-at
invariant-loop-at g l = record {
  so_far :
      (a : Archive) → g.S.Shelf.holds l.fn.shelf a →
      SoFar (live a.entries) l.low l.at l.begun (outside (g.O.Sink.taken l.fn.out) (g.S.Shelf.faults l.fn.shelf) (g.O.Sink.faults l.fn.out)) (outside (g.O.Sink.taken l.out) (g.S.Shelf.faults l.shelf) (g.O.Sink.faults l.out));
  shelf : ShelfStays g.S.Shelf.holds g.S.Shelf.ready g.S.Shelf.alike g.S.Shelf.faults l.fn.shelf l.shelf;
  sink : g.O.Sink.alike l.fn.out l.out;
  within : l.at ≤ l.count;
}

abbrev pub decreases-loop-at : goal.decreases-loop-at
decreases-loop-at g l = l.count - l.at
