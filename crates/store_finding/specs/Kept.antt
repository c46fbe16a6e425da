-- What is kept in memory of an archive, and which disk is its own.
use Rattle.std.specs.Prelude.{◌-◌, slice_get, ◌≡◌, ◌+◌, ◌≤◌, ℕ, List, [], ◌∷◌, ◌++◌, length, Option, Some, None}
use Rattle.arch_base.specs.declared.ids.Form.{Form}
use Rattle.disk_model.specs.Disk.{Content}
use Rattle.disk_model.specs.Sizes.{greatest_epoch}
use Rattle.arch_model.specs.Archives.{Entry, Archive, in_epoch}
use Rattle.arch_model.specs.Epochs.{entries_bytes, last_commit}
use Rattle.epoch_file.specs.Entries.{EpochEntry}
use Rattle.epoch_file.specs.Walking.{seen_at}
use Rattle.root_slots.specs.declared.root.Root.{Root}
use Rattle.store_finding.specs.declared.entries.StoredEntry.{StoredEntry}
use Rattle.root_change.specs.Texts.{IsOn}
use Rattle.root_change.specs.Parts.{texts_of}
use Rattle.arch_model.specs.Validity.{IsArchive}
use Rattle.store_finding.specs.Recovery.{NamesArchive, parts_of}

-- What is kept in memory: the current root and its slot, and each entry without its text.
pub record StoreState : Type 0 where
  pub root : Root
  pub slot : ℕ
  pub entries : List StoredEntry

-- An entry as it is in its epoch's file.
abbrev pub in_file : Entry → EpochEntry
in_file e = record { kind = e.kind; text = e.text; moment = e.moment }

-- What is kept of an entry in a form, after others: its offset follows the epoch's first eight bytes
-- and the other entries of its epoch.
abbrev pub stored_at : Form → List Entry → Entry → StoredEntry
stored_at form before e = record {
  number = e.number;
  epoch = e.epoch;
  seen = seen_at form (8 + length (entries_bytes form None (in_epoch before e.epoch)))
      (last_commit form None (in_epoch before e.epoch)) (in_file e);
}

-- What is kept of entries in a form, after others.
abbrev pub stored_after : Form → List Entry → List Entry → List StoredEntry
stored_after form before [] = []
stored_after form before (e ∷ es) = stored_at form before e ∷ stored_after form (before ++ e ∷ []) es

-- A store keeps an archive: the root that names it, and its entries in the form of its settings.
pub record KeepsArchive (v : StoreState) (a : Archive) : Type 0 where
  pub valid : IsArchive a
  pub names : NamesArchive v.root a
  pub kept : v.entries ≡ stored_after a.config.form [] a.entries

-- A disk is a store's own, and holds this archive with a cache of these bytes: the store keeps it,
-- and the disk is exactly the archive's by the store's root.
pub record IsDiskWith (v : StoreState) (cache : List ℕ) (a : Archive) (k : Content) : Type 0 where
  pub keeps : KeepsArchive v a
  pub cache_fits : length cache ≤ v.root.cache.length
  pub on : IsOn v.root (1 - v.slot) (texts_of v.root (parts_of a cache)) k

-- The same for a disk that tells its content.
abbrev pub IsStoreWith : StoreState → List ℕ → Archive → Option Content → Type 0
IsStoreWith v cache a None = ⊥
IsStoreWith v cache a (Some k) = IsDiskWith v cache a k

-- A disk is a store's own, and holds this archive without a byte of a cache.
abbrev pub IsDiskOf : StoreState → Archive → Content → Type 0
IsDiskOf v a k = IsDiskWith v [] a k

-- The same for a disk that tells its content.
abbrev pub IsStoreOf : StoreState → Archive → Option Content → Type 0
IsStoreOf v a content = IsStoreWith v [] a content

-- The entries of a store are in epochs 0 to 63.
abbrev pub InEpochs : List StoredEntry → Type 0
InEpochs entries = (i : ℕ) (e : StoredEntry) → slice_get entries i ≡ Some e
    → e.epoch ≤ greatest_epoch
