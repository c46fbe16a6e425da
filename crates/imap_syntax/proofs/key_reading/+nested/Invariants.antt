use Rattle.std.proofs.Common.{◌≡◌, ◌+◌, ◌-◌, ◌*◌, length, map}
use Rattle.imap_words.specs.Reading.{many_at}
use Rattle.imap_syntax.specs.Keys.{key_at}
use Rattle.imap_syntax.specs.Trees.{tree_of}
use Rattle.imap_words.proofs.Lists.{with_all}
use Rattle.imap_syntax.proofs.key_reading.+nested.Given as goal

abbrev pub invariant-keys-loop-index : goal.invariant-keys-loop-index
invariant-keys-loop-index l =
    with_all (map tree_of l.keys.items) (many_at (key_at l.depth) (l._index-end - l._index) l.cursor)
    ≡ many_at (key_at l.depth) (length l.fn.cursor) l.fn.cursor

abbrev pub decreases-key : goal.decreases-key
decreases-key l = 3 * l.depth

abbrev pub decreases-keys : goal.decreases-keys
decreases-keys l = 3 * l.depth + 1

abbrev pub decreases-opposite : goal.decreases-opposite
decreases-opposite l = 3 * l.depth + 1

abbrev pub decreases-either : goal.decreases-either
decreases-either l = 3 * l.depth + 1

abbrev pub decreases-key_list : goal.decreases-key_list
decreases-key_list l = 3 * l.depth + 2

abbrev pub decreases-named : goal.decreases-named
decreases-named l = 3 * l.depth + 2
