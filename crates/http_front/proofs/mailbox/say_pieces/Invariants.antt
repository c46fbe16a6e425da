use Rattle.std.proofs.Common.{◌++◌, [], drop}
use Rattle.line_door.specs.Acts.{outside}
use Rattle.arch_model.specs.Archives.{Archive}
use Rattle.arch_model.specs.Shelves.{ShelfStays, ReadsUpTo}
use Rattle.http_front.specs.Mailboxes.{mailbox_at}
use Rattle.shelf_doors.proofs.Streaming.{Under}
use Rattle.http_front.proofs.mailbox.say_pieces.Given as goal

abbrev pub invariant-loop-n : goal.invariant-loop-n
invariant-loop-n g l = record {
  so_far :
      (a : Archive) → g.S.Shelf.holds l.fn.shelf a →
      Under (l.fn.unsaid ++ mailbox_at a.entries l.numbers) (l.unsaid ++ mailbox_at a.entries (drop l.n-index l.numbers)) l.begun (outside (g.O.Sink.taken l.fn.out) (g.S.Shelf.faults l.fn.shelf) (g.O.Sink.faults l.fn.out)) []
      (outside (g.O.Sink.taken l.out) (g.S.Shelf.faults l.shelf) (g.O.Sink.faults l.out));
  reads : ReadsUpTo l.n-index (g.S.Shelf.reads l.fn.shelf) (g.S.Shelf.reads l.shelf);
  shelf : ShelfStays g.S.Shelf.holds g.S.Shelf.ready g.S.Shelf.alike g.S.Shelf.faults l.fn.shelf l.shelf;
  sink : g.O.Sink.alike l.fn.out l.out;
}
