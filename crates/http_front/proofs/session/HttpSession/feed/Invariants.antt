use Rattle.std.proofs.Common.{◌++◌, length, Some}
use Rattle.line_door.specs.Acts.{outside}
use Rattle.line_door.specs.Course.{talk}
use Rattle.keep_course.specs.Courses.{ShelfRunning}
use Rattle.arch_model.specs.Archives.{Archive}
use Rattle.arch_model.specs.Shelves.{ShelfStays, ReadsAhead}
use Rattle.http_front.specs.Counting.{texts_for_bytes}
use Rattle.http_front.specs.Door.{pages_at}
use Rattle.http_front.proofs.session.HttpSession.feed.Given as goal

abbrev pub invariant-loop-taken : goal.invariant-loop-taken
invariant-loop-taken g l = record {
  going :
      (a : Archive) → g.S.Shelf.holds l.fn.shelf a →
      ShelfRunning g.S.Shelf (pages_at l.moment) l.fn.shelf l.shelf
      (talk (Some (l.fn.self ++ l.fn.piece)) a (outside (g.O.Sink.taken l.fn.out) (g.S.Shelf.faults l.fn.shelf) (g.O.Sink.faults l.fn.out)))
      (talk (Some (l.self ++ l.rest)) a (outside (g.O.Sink.taken l.out) (g.S.Shelf.faults l.shelf) (g.O.Sink.faults l.out)));
  reads :
      (a : Archive) → g.S.Shelf.holds l.fn.shelf a →
      ReadsAhead (texts_for_bytes a (l.fn.self ++ l.fn.piece)) (texts_for_bytes a (l.self ++ l.rest)) (g.S.Shelf.reads l.fn.shelf) (g.S.Shelf.reads l.shelf);
  shelf : ShelfStays g.S.Shelf.holds g.S.Shelf.ready g.S.Shelf.alike g.S.Shelf.faults l.fn.shelf l.shelf;
  sink : g.O.Sink.alike l.fn.out l.out;
}

abbrev pub decreases-loop-taken : goal.decreases-loop-taken
decreases-loop-taken g l = length l.rest
