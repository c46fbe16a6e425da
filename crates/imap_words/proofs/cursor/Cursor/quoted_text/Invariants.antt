use Rattle.std.proofs.Common.{◌≡◌, length, false}
use Rattle.imap_words.specs.Strings.{quoted_from}
use Rattle.imap_words.proofs.Texts.{put_all}
use Rattle.imap_words.proofs.cursor.Cursor.quoted_text.Given as goal

abbrev pub invariant-loop-byte : goal.invariant-loop-byte
invariant-loop-byte l = put_all l.text (quoted_from l.escaped l.self) ≡ quoted_from false l.fn.self

abbrev pub decreases-loop-byte : goal.decreases-loop-byte
decreases-loop-byte l = length l.self
