use Rattle.std.proofs.Common.{◌≡◌, ◌-◌, length}
use Rattle.imap_words.specs.Reading.{many_at}
use Rattle.imap_words.specs.Strings.{astring_at}
use Rattle.imap_words.proofs.Lists.{with_all}
use Rattle.imap_words.proofs.cursor.Cursor.astrings.Given as goal

abbrev pub invariant-loop-index : goal.invariant-loop-index
invariant-loop-index l =
    with_all l.texts (many_at astring_at (l._index-end - l._index) l.self) ≡ many_at astring_at (length l.fn.self) l.fn.self
