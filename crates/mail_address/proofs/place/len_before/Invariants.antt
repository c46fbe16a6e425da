use Rattle.std.proofs.Common.{◌≡◌, ◌≤◌, ◌+◌}
use Rattle.mail_address.specs.Places.{depth_of}
use Rattle.mail_address.specs.Items.{len_before}
use Rattle.mail_address.proofs.Seeking.{len_from}
use Rattle.mail_address.proofs.place.len_before.Given as goal

abbrev pub invariant-loop-at : goal.invariant-loop-at
invariant-loop-at l = record {
  len : len_from l.sought l.place l.bytes l.at ≡ len_before l.sought l.fn.start l.bytes;
  shallow : depth_of l.place ≤ l.at + 1;
}
