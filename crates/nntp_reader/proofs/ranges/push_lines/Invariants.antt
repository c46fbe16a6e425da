use Rattle.std.proofs.Common.{◌≡◌, ◌≤◌, ℕ, IfSome}
use Rattle.arch_model.specs.Archives.{Archive, live}
use Rattle.nntp_reader.specs.Facts.{fact_lines}
use Rattle.shelf_doors.specs.Numbers.{live_in, first_of}
use Rattle.wire_replies.proofs.Wording.{SoFar}
use Rattle.shelf_doors.proofs.Walking.{numbers_left}
use Rattle.nntp_reader.proofs.ranges.push_lines.Given as goal

abbrev pub invariant-loop-next : goal.invariant-loop-next
invariant-loop-next g l = record {
  so_far :
      (a : Archive) → g.S.Shelf.holds l.shelf a →
      (at : ℕ) × (l.next ≡ first_of (live_in (live a.entries) at l.range.last))
      × SoFar (fact_lines l.fact a l.range.first l.range.last) (fact_lines l.fact a at l.range.last) l.fn.reply (g.O.Sink.taken l.fn.out) (g.O.Sink.faults l.fn.out) l.reply (g.O.Sink.taken l.out) (g.O.Sink.faults l.out);
  within : IfSome l.next (λ n. n ≤ l.range.last);
  sink : g.O.Sink.alike l.fn.out l.out;
}

abbrev pub decreases-loop-next : goal.decreases-loop-next
decreases-loop-next g l = numbers_left l.range.last l.next
