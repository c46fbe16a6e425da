use Rattle.std.proofs.Common.{◌≡◌, ◌≤◌, ℕ, length, true, IfSome, is_some}
use Rattle.line_door.specs.Acts.{outside}
use Rattle.arch_model.specs.Archives.{Archive, live, text_of}
use Rattle.arch_model.specs.Shelves.{ShelfStays, ReadsAhead}
use Rattle.shelf_doors.specs.Numbers.{live_in, first_of}
use Rattle.shelf_doors.proofs.Streaming.{Under}
use Rattle.shelf_doors.proofs.Walking.{numbers_left}
use Rattle.nntp_reader.specs.Headers.{fields_block}
use Rattle.nntp_reader.proofs.Streams.{fields_left}
use Rattle.nntp_reader.proofs.field.say_range.Given as goal

abbrev pub invariant-loop-next : goal.invariant-loop-next
invariant-loop-next g l = record {
  so_far :
      (a : Archive) → g.S.Shelf.holds l.fn.shelf a →
      (at : ℕ) × (l.next ≡ first_of (live_in (live a.entries) at l.range.last))
      × Under (fields_block l.name (live a.entries) l.range.first l.range.last) (fields_left l.name (live a.entries) l.begun at l.range.last) l.begun (outside (g.O.Sink.taken l.fn.out) (g.S.Shelf.faults l.fn.shelf) (g.O.Sink.faults l.fn.out)) l.reply (outside (g.O.Sink.taken l.out) (g.S.Shelf.faults l.shelf) (g.O.Sink.faults l.out));
  reads :
      (a : Archive) → g.S.Shelf.holds l.fn.shelf a →
      (at : ℕ) × (l.next ≡ first_of (live_in (live a.entries) at l.range.last))
      × ReadsAhead (length (live_in (live a.entries) l.range.first l.range.last)) (length (live_in (live a.entries) at l.range.last)) (g.S.Shelf.reads l.fn.shelf) (g.S.Shelf.reads l.shelf);
  alive : (a : Archive) → g.S.Shelf.holds l.shelf a → IfSome l.next (λ n. is_some (text_of (live a.entries) n) ≡ true);
  within : IfSome l.next (λ n. n ≤ l.range.last);
  shelf : ShelfStays g.S.Shelf.holds g.S.Shelf.ready g.S.Shelf.alike g.S.Shelf.faults l.fn.shelf l.shelf;
  sink : g.O.Sink.alike l.fn.out l.out;
}

abbrev pub decreases-loop-next : goal.decreases-loop-next
decreases-loop-next g l = numbers_left l.range.last l.next
