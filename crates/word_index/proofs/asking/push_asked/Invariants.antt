use Rattle.std.proofs.Common.{◌≡◌, ◌&&◌, take}
use Rattle.std.specs.List.{list_all}
use Rattle.query_lang.specs.Matching.{has_in}
use Rattle.word_index.specs.declared.rows.KeptRow.{KeptRow}
use Rattle.word_index.specs.Kept.{IsHeld, shown}
use Rattle.word_index.specs.Asked.{has_asked}
use Rattle.word_index.proofs.asking.push_asked.Given as goal

abbrev pub invariant-loop-word : goal.invariant-loop-word
invariant-loop-word l =
    (row : KeptRow) → IsHeld l.held row → list_all (has_asked row) l.into.items ≡ (list_all (has_asked row) l.fn.into.items && list_all (has_in l.field (shown l.held row).words) (take l.word-index l.words))
