-- The index of what is kept of entries.
use Rattle.std.specs.Prelude.{◌≡◌, List, []}
use Rattle.std.specs.List.{AllByRecursion}
use Rattle.arch_base.specs.declared.ids.Form.{Form}
use Rattle.git_objects.specs.declared.entry_kind.EntryKind.{EntryKind}
use Rattle.git_objects.specs.declared.entry_kind.EntryKind.TheVariants.{Message, Deletion}
use Rattle.arch_model.specs.Archives.{Entry}
use Rattle.arch_model.specs.Validity.{IsEntry, Rise, AtEachPlace, EndsLive, LiveDiffer}
use Rattle.arch_judge.specs.Indexes.{IsArchiveIndex, IndexPuts, IndexLoses}
use Rattle.arch_judge.specs.declared.index.Index.{Index}
use Rattle.arch_judge.specs.declared.index.Owner.{Owner}
use Rattle.store_finding.specs.declared.entries.StoredEntry.{StoredEntry}
use Rattle.store_finding.specs.Kept.{stored_after}

-- The message of an entry that is kept, as the owner of its id.
abbrev pub owner_kept : StoredEntry → Owner
owner_kept e = record { number = e.number; content = e.seen.content }

-- Entries are in order: numbers rise, each deletion ends a live message, and the own ids of live
-- messages differ at each place.
pub record EntriesAreInOrder (entries : List Entry) : Type 0 where
  pub each : AllByRecursion IsEntry entries
  pub order : Rise 1 0 entries
  pub ends : AtEachPlace (λ (before : List Entry) (e : Entry). EndsLive e.kind before e) [] entries
  pub ids : AtEachPlace LiveDiffer [] entries

-- What is kept is that of these entries in a form, and they are in order.
pub record AreOf (form : Form) (kept : List StoredEntry) (entries : List Entry) : Type 0 where
  pub ordered : EntriesAreInOrder entries
  pub is : kept ≡ stored_after form [] entries

-- An index is that of the entries of which this is kept, in whatever form it is kept.
abbrev pub IndexesStored : List StoredEntry → Index → Type 0
IndexesStored kept index = (form : Form) (entries : List Entry) → AreOf form kept entries
    → IsArchiveIndex form entries index

-- An entry of a kind was taken into an index: a message was put there, or the own id of the one that a
-- deletion ends was removed.
abbrev pub TakesBy : EntryKind → Index → Index → StoredEntry → Type 0
TakesBy Message old new e = IndexPuts old new e.seen.id e.seen.blob (owner_kept e)
TakesBy Deletion old new e = IndexLoses old new e.seen.id

-- The same of an entry of its own kind.
abbrev pub IndexTakes : Index → Index → StoredEntry → Type 0
IndexTakes old new e = TakesBy e.seen.kind old new e
