-- Where the entries of a store lie in the files of their epochs.
use Rattle.std.specs.Prelude.{◌≡◌, ◌+◌, ◌≤◌, ℕ, List, [], ◌∷◌, get_or}
use Rattle.std.specs.List.{AllByRecursion}
use Rattle.disk_model.specs.declared.name.FileKind.TheVariants as kind
use Rattle.root_slots.specs.declared.root.Root.{Root}
use Rattle.root_slots.specs.Valid.{no_place}
use Rattle.root_change.specs.Rewriting.{Plan, place_planned, plan_of}
use Rattle.epoch_file.specs.Lying.{tree_end}
use Rattle.store_finding.specs.declared.entries.StoredEntry.{StoredEntry}
use Rattle.store_finding.specs.Damage.{named_length}

-- An entry is in an epoch or a later one, and in that epoch at an offset or after it.
abbrev pub ComesAfter : ℕ → ℕ → StoredEntry → Type 0
ComesAfter epoch from e = (epoch ≤ e.epoch) × (epoch ≡ e.epoch → from ≤ e.seen.at)

-- Entries lie one after the other, from an offset in an epoch on, and each text lies in its entry.
abbrev pub LieFrom : ℕ → ℕ → List StoredEntry → Type 0
LieFrom epoch from [] = Unit {0}
LieFrom epoch from (e ∷ es) = ComesAfter epoch from e × (e.seen.at ≤ e.seen.text_at)
    × LieFrom e.epoch (tree_end e.seen) es

-- Entries lie one after the other in the files of their epochs, of which so many bytes count.
pub record AreIn (lengths : ℕ → ℕ) (entries : List StoredEntry) : Type 0 where
  pub lie : LieFrom 0 0 entries
  pub ends : AllByRecursion (λ (e : StoredEntry). tree_end e.seen ≤ lengths e.epoch) entries

-- They lie in the bytes that a root names.
abbrev pub AreNamed : Root → List StoredEntry → Type 0
AreNamed root entries = AreIn (named_length root) entries

-- The number of bytes of an epoch of a root once plans are carried out.
abbrev pub length_planned : Root → List Plan → ℕ → ℕ
length_planned root plans epoch = (place_planned (root.sequence + 1) (plan_of plans kind.Epoch epoch)
    (get_or root.epochs epoch no_place)).length

-- They lie in the bytes of the files once plans are carried out.
abbrev pub AreNamedAfter : Root → List Plan → List StoredEntry → Type 0
AreNamedAfter root plans entries = AreIn (length_planned root plans) entries

-- No entry is in a later epoch than this one.
abbrev pub AreUpToEpoch : ℕ → List StoredEntry → Type 0
AreUpToEpoch epoch entries = AllByRecursion (λ (e : StoredEntry). e.epoch ≤ epoch) entries
