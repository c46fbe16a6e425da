use Rattle.std.proofs.Common.{length, Some}
use Rattle.line_door.specs.Acts.{outside}
use Rattle.line_door.specs.Course.{talk}
use Rattle.keep_course.specs.Courses.{ShelfRunning}
use Rattle.arch_model.specs.Archives.{Archive}
use Rattle.arch_model.specs.Shelves.{ShelfStays, ReadsAhead}
use Rattle.imap_framer.specs.Doors.{framed_more}
use Rattle.imap_states.specs.States.{SuitsClient}
use Rattle.imap_session.specs.Counting.{texts_ahead}
use Rattle.imap_session.specs.Door.{imap_door}
use Rattle.imap_session.proofs.session.ImapSession.feed.Given as goal

abbrev pub invariant-loop-taken : goal.invariant-loop-taken
invariant-loop-taken g l = record {
  going :
      (a : Archive) → g.S.Shelf.holds l.fn.shelf a → SuitsClient a l.fn.self.0 →
      ShelfRunning g.S.Shelf imap_door l.fn.shelf l.shelf
      (talk (Some (framed_more l.fn.piece l.fn.self)) a (outside (g.O.Sink.taken l.fn.out) (g.S.Shelf.faults l.fn.shelf) (g.O.Sink.faults l.fn.out)))
      (talk (Some (framed_more l.rest l.self)) a (outside (g.O.Sink.taken l.out) (g.S.Shelf.faults l.shelf) (g.O.Sink.faults l.out)));
  suits : (a : Archive) → g.S.Shelf.holds l.fn.shelf a → SuitsClient a l.fn.self.0 → SuitsClient a l.self.0;
  reads :
      (a : Archive) → g.S.Shelf.holds l.fn.shelf a → SuitsClient a l.fn.self.0 →
      ReadsAhead (texts_ahead a (framed_more l.fn.piece l.fn.self)) (texts_ahead a (framed_more l.rest l.self)) (g.S.Shelf.reads l.fn.shelf) (g.S.Shelf.reads l.shelf);
  shelf : ShelfStays g.S.Shelf.holds g.S.Shelf.ready g.S.Shelf.alike g.S.Shelf.faults l.fn.shelf l.shelf;
  sink : g.O.Sink.alike l.fn.out l.out;
}

abbrev pub decreases-loop-taken : goal.decreases-loop-taken
decreases-loop-taken g l = length l.rest
