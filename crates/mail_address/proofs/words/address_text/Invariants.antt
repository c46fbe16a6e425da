use Rattle.std.proofs.Common.{◌≡◌, ◌≤◌}
use Rattle.mail_address.specs.Places.{depth_of}
use Rattle.mail_address.specs.Words.{address_text}
use Rattle.mail_address.proofs.Spacing.{text_from}
use Rattle.mail_address.proofs.words.address_text.Given as goal

abbrev pub invariant-loop-byte : goal.invariant-loop-byte
invariant-loop-byte l = record {
  text : text_from l.text l.place l.bytes l.byte-index ≡ address_text l.bytes;
  shallow : depth_of l.place ≤ l.byte-index;
}
