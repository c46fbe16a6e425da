use Rattle.std.proofs.Common.{◌≡◌, drop, map}
use Rattle.imap_syntax.specs.Trees.{tree_of, trees}
use Rattle.imap_items.specs.Keys.{trees_match}
use Rattle.imap_items.specs.Kept.{shown_message, IsKeptText}
use Rattle.imap_items.proofs.keys.+keys.Given as goal

abbrev pub invariant-matches_each-loop-key : goal.invariant-matches_each-loop-key
invariant-matches_each-loop-key l = record {
  found : trees_match (shown_message l.message) (trees (map tree_of (drop l.key-index l.keys))) ≡ trees_match (shown_message l.message) (trees (map tree_of l.keys));
  kept : IsKeptText l.message.text.now l.kept;
}
