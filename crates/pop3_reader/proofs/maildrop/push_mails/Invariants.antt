use Rattle.std.proofs.Common.{◌≡◌, ◌≤◌, ◌++◌, ℕ, IfSome}
use Rattle.arch_model.specs.Archives.{Archive, live}
use Rattle.shelf_doors.specs.Numbers.{live_in, first_of}
use Rattle.shelf_doors.proofs.Walking.{numbers_left}
use Rattle.pop3_reader.specs.Maildrops.{sizes_within}
use Rattle.pop3_reader.proofs.maildrop.push_mails.Given as goal

abbrev pub invariant-loop-next : goal.invariant-loop-next
invariant-loop-next g l = record {
  so_far :
      (a : Archive) → g.S.Shelf.holds l.shelf a →
      (at : ℕ) × (l.next ≡ first_of (live_in (live a.entries) at l.range.last))
      × (l.mails ++ sizes_within a at l.range.last ≡ l.fn.mails ++ sizes_within a l.range.first l.range.last);
  within : IfSome l.next (λ n. n ≤ l.range.last);
}

abbrev pub decreases-loop-next : goal.decreases-loop-next
decreases-loop-next g l = numbers_left l.range.last l.next
