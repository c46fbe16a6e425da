use Rattle.std.proofs.Common.{◌≤◌, ◌++◌, ◌-◌, [], length}
use Rattle.line_door.specs.Acts.{outside}
use Rattle.arch_model.specs.Archives.{Archive, live}
use Rattle.arch_model.specs.Shelves.{ShelfStays, ReadsAhead}
use Rattle.http_front.specs.Mailboxes.{whole_mailbox}
use Rattle.http_front.proofs.Counting.{entries_from}
use Rattle.http_front.proofs.Pieces.{pieces_left}
use Rattle.shelf_doors.proofs.Streaming.{Under}
use Rattle.http_front.proofs.mailbox.say_every_piece.Given as goal

abbrev pub invariant-loop-n : goal.invariant-loop-n
invariant-loop-n g l = record {
  so_far :
      (a : Archive) → g.S.Shelf.holds l.fn.shelf a →
      Under (l.fn.unsaid ++ whole_mailbox a.entries) (l.unsaid ++ pieces_left a.entries l.low) l.begun (outside (g.O.Sink.taken l.fn.out) (g.S.Shelf.faults l.fn.shelf) (g.O.Sink.faults l.fn.out)) [] (outside (g.O.Sink.taken l.out) (g.S.Shelf.faults l.shelf) (g.O.Sink.faults l.out));
  reads : (a : Archive) → g.S.Shelf.holds l.fn.shelf a → ReadsAhead (length (live a.entries)) (entries_from (live a.entries) l.low) (g.S.Shelf.reads l.fn.shelf) (g.S.Shelf.reads l.shelf);
  within : l.low ≤ 4294967296;
  shelf : ShelfStays g.S.Shelf.holds g.S.Shelf.ready g.S.Shelf.alike g.S.Shelf.faults l.fn.shelf l.shelf;
  sink : g.O.Sink.alike l.fn.out l.out;
}

abbrev pub decreases-loop-n : goal.decreases-loop-n
decreases-loop-n g l = 4294967296 - l.low
