use Rattle.std.proofs.Common.{◌++◌, length, Some}
use Rattle.line_door.specs.Acts.{outside}
use Rattle.line_door.specs.Clipped.{longest_line}
use Rattle.line_door.specs.Costs.{lines_cost}
use Rattle.line_door.specs.Course.{talk}
use Rattle.line_door.specs.Readers.{with_piece}
use Rattle.keep_course.specs.Courses.{ShelfRunning}
use Rattle.arch_model.specs.Archives.{Archive}
use Rattle.arch_model.specs.Shelves.{ShelfStays, ReadsAhead}
use Rattle.nntp_reader.specs.Counting.{line_texts}
use Rattle.nntp_reader.specs.Door.{news_at}
use Rattle.nntp_reader.proofs.session.NntpSession.feed.Given as goal

abbrev pub invariant-loop-taken : goal.invariant-loop-taken
invariant-loop-taken g l = record {
  going :
      (a : Archive) → g.S.Shelf.holds l.fn.shelf a →
      ShelfRunning g.S.Shelf (news_at l.moment) l.fn.shelf l.shelf
      (talk (Some (with_piece longest_line l.fn.piece l.fn.self)) a (outside (g.O.Sink.taken l.fn.out) (g.S.Shelf.faults l.fn.shelf) (g.O.Sink.faults l.fn.out)))
      (talk (Some (with_piece longest_line l.rest l.self)) a (outside (g.O.Sink.taken l.out) (g.S.Shelf.faults l.shelf) (g.O.Sink.faults l.out)));
  reads :
      (a : Archive) → g.S.Shelf.holds l.fn.shelf a →
      ReadsAhead (lines_cost longest_line (line_texts l.moment a) (l.fn.self.bytes ++ l.fn.piece)) (lines_cost longest_line (line_texts l.moment a) (l.self.bytes ++ l.rest)) (g.S.Shelf.reads l.fn.shelf) (g.S.Shelf.reads l.shelf);
  shelf : ShelfStays g.S.Shelf.holds g.S.Shelf.ready g.S.Shelf.alike g.S.Shelf.faults l.fn.shelf l.shelf;
  sink : g.O.Sink.alike l.fn.out l.out;
}

abbrev pub decreases-loop-taken : goal.decreases-loop-taken
decreases-loop-taken g l = length l.rest
