use Rattle.std.proofs.Common.{◌≡◌, drop, map}
use Rattle.std.specs.List.{list_any}
use Rattle.imap_syntax.specs.Trees.{tree_of}
use Rattle.imap_items.specs.Keys.{tree_reads}
use Rattle.imap_messages.proofs.found.read_texts.Given as goal

abbrev pub invariant-loop-key : goal.invariant-loop-key
invariant-loop-key l = list_any tree_reads (map tree_of (drop l.key-index l.keys)) ≡ list_any tree_reads (map tree_of l.keys)
