use Rattle.std.proofs.Common.{◌≡◌, ◌+◌, ◌≤◌, ◌*◌, ◌-◌, length}
use Rattle.arch_model.specs.Archives.{Archive}
use Rattle.http_front.specs.Mailboxes.{whole_mailbox}
use Rattle.http_front.proofs.Pieces.{pieces_left}
use Rattle.http_front.proofs.mailbox.every_len.Given as goal

abbrev pub invariant-loop-n : goal.invariant-loop-n
invariant-loop-n g l = record {
  value : (a : Archive) → g.S.Shelf.holds l.shelf a → l.len + length (pieces_left a.entries l.low) ≡ length (whole_mailbox a.entries);
  room : l.len ≤ l.low * 18446744073709551615;
  within : l.low ≤ 4294967296;
}

abbrev pub decreases-loop-n : goal.decreases-loop-n
decreases-loop-n g l = 4294967296 - l.low
