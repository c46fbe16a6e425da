use Rattle.std.proofs.Common.{◌≡◌, ◌≤◌}
use Rattle.mail_address.specs.Places.{depth_of}
use Rattle.mail_address.specs.Words.{name_text}
use Rattle.mail_address.proofs.Spacing.{name_from}
use Rattle.mail_address.proofs.words.name_text.Given as goal

abbrev pub invariant-loop-byte : goal.invariant-loop-byte
invariant-loop-byte l = record {
  text : name_from l.text l.gap l.place l.bytes l.byte-index ≡ name_text l.bytes;
  shallow : depth_of l.place ≤ l.byte-index;
}
