-- The entries before an index that stay are in the index of entries.
use Rattle.std.specs.Prelude.{take}
use Rattle.archive_core.specs.Kept.{IndexesKept}
use Rattle.store_planning.specs.Dropping.{without_blob}
use Rattle.archive_core.proofs.entries.index_without.Given as goal

abbrev pub invariant-loop-entry : goal.invariant-loop-entry
invariant-loop-entry l = IndexesKept (without_blob (take l.entry-index l.entries) l.blob) l.index
