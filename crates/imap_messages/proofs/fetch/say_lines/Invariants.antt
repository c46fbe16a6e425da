use Rattle.std.proofs.Common.{◌≤◌, ◌-◌, length}
use Rattle.line_door.specs.Acts.{outside}
use Rattle.arch_model.specs.Archives.{Archive}
use Rattle.arch_model.specs.Shelves.{ShelfStays, ReadsAhead}
use Rattle.shelf_doors.proofs.Streaming.{Under}
use Rattle.imap_messages.specs.Fetching.{asked_fetch, fetch_lines, fetch_words, texts_of}
use Rattle.imap_messages.specs.FetchActs.{named_from}
use Rattle.imap_messages.specs.Picking.{picked}
use Rattle.imap_messages.proofs.fetch.say_lines.Given as goal

abbrev pub invariant-loop-index : goal.invariant-loop-index
invariant-loop-index g l = record {
  so_far :
      (a : Archive) → g.S.Shelf.holds l.fn.shelf a →
      Under (fetch_words a l.told.uids (asked_fetch l.command)) (fetch_lines a (asked_fetch l.command) (named_from (asked_fetch l.command) l.told.uids l.index) l.gone) l.begun
      (outside (g.O.Sink.taken l.fn.out) (g.S.Shelf.faults l.fn.shelf) (g.O.Sink.faults l.fn.out)) l.reply (outside (g.O.Sink.taken l.out) (g.S.Shelf.faults l.shelf) (g.O.Sink.faults l.out));
  reads :
      (a : Archive) → g.S.Shelf.holds l.fn.shelf a →
      ReadsAhead (texts_of a (asked_fetch l.command) (picked l.command.numbering l.command.set.now l.told.uids)) (texts_of a (asked_fetch l.command) (named_from (asked_fetch l.command) l.told.uids l.index)) (g.S.Shelf.reads l.fn.shelf) (g.S.Shelf.reads l.shelf);
  within : l.index ≤ length l.told.uids;
  shelf : ShelfStays g.S.Shelf.holds g.S.Shelf.ready g.S.Shelf.alike g.S.Shelf.faults l.fn.shelf l.shelf;
  sink : g.O.Sink.alike l.fn.out l.out;
}

abbrev pub decreases-loop-index : goal.decreases-loop-index
decreases-loop-index g l = l.count - l.index
