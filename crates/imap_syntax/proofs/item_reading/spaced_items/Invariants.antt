use Rattle.std.proofs.Common.{◌≡◌, ◌-◌, length}
use Rattle.imap_words.specs.Reading.{many_at}
use Rattle.imap_syntax.specs.Items.{item_at}
use Rattle.imap_words.proofs.Lists.{with_all}
use Rattle.imap_syntax.proofs.item_reading.spaced_items.Given as goal

abbrev pub invariant-loop-index : goal.invariant-loop-index
invariant-loop-index l =
    with_all l.items (many_at item_at (l._index-end - l._index) l.cursor) ≡ many_at item_at (length l.fn.cursor) l.fn.cursor
