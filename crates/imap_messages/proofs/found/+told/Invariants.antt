use Rattle.std.proofs.Common.{◌≡◌, drop, map}
use Rattle.imap_syntax.specs.Trees.{tree_of, trees}
use Rattle.imap_messages.specs.Wanted.{trees_are_told}
use Rattle.imap_messages.proofs.found.+told.Given as goal

abbrev pub invariant-keys_are_told-loop-key : goal.invariant-keys_are_told-loop-key
invariant-keys_are_told-loop-key l = trees_are_told l.count (trees (map tree_of (drop l.key-index l.keys))) ≡ trees_are_told l.count (trees (map tree_of l.keys))
