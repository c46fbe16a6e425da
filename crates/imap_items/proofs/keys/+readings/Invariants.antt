use Rattle.std.proofs.Common.{◌≡◌, drop, map}
use Rattle.imap_syntax.specs.Trees.{tree_of, trees}
use Rattle.imap_items.specs.Keys.{trees_read}
use Rattle.imap_items.proofs.keys.+readings.Given as goal

abbrev pub invariant-one_reads_text-loop-key : goal.invariant-one_reads_text-loop-key
invariant-one_reads_text-loop-key l = trees_read (trees (map tree_of (drop l.key-index l.keys))) ≡ trees_read (trees (map tree_of l.keys))
