use Rattle.std.proofs.Common.{◌≡◌, ◌+◌, ◌≤◌, ◌*◌, length, drop}
use Rattle.arch_model.specs.Archives.{Archive}
use Rattle.http_front.specs.Mailboxes.{mailbox_at}
use Rattle.http_front.proofs.mailbox.len_of.Given as goal

abbrev pub invariant-loop-n : goal.invariant-loop-n
invariant-loop-n g l = record {
  value : (a : Archive) → g.S.Shelf.holds l.shelf a → l.len + length (mailbox_at a.entries (drop l.n-index l.numbers)) ≡ length (mailbox_at a.entries l.numbers);
  room : l.len ≤ l.n-index * 18446744073709551615;
}
