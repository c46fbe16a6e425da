use Rattle.std.proofs.Common.{◌≡◌, drop, map}
use Rattle.std.specs.List.{list_all}
use Rattle.imap_syntax.specs.Trees.{tree_of}
use Rattle.imap_items.specs.Keys.{tree_matches}
use Rattle.imap_messages.specs.SearchActs.{text_at, keys_by}
use Rattle.imap_messages.proofs.found.keys_match.Given as goal

abbrev pub invariant-loop-key : goal.invariant-loop-key
invariant-loop-key l = list_all (tree_matches (text_at l.place l.text l.row)) (keys_by l.reading (map tree_of (drop l.key-index l.keys))) ≡ list_all (tree_matches (text_at l.place l.text l.row)) (keys_by l.reading (map tree_of l.keys))
