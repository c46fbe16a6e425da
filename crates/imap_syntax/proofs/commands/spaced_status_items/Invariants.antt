use Rattle.std.proofs.Common.{◌≡◌, ◌-◌, length}
use Rattle.imap_words.specs.Reading.{many_at}
use Rattle.imap_syntax.specs.Commands.{status_item_at}
use Rattle.imap_words.proofs.Lists.{with_all}
use Rattle.imap_syntax.proofs.commands.spaced_status_items.Given as goal

abbrev pub invariant-loop-index : goal.invariant-loop-index
invariant-loop-index l =
    with_all l.items (many_at status_item_at (l._index-end - l._index) l.cursor) ≡ many_at status_item_at (length l.fn.cursor) l.fn.cursor
