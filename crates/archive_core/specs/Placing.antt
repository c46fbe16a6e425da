-- Where the messages among the entries of a store are.
use Rattle.std.specs.Prelude.{◌≡◌, ◌≢◌, ◌+◌, ◌≤◌, ◌==◌, ◌&&◌, ◌||◌, ℕ, Bool, true, false, not, List, [], ◌∷◌, ◌++◌, slice_get, Option, Some, None, if◌then◌else◌}
use Rattle.std.specs.List.{list_any}
use Rattle.arch_base.specs.Ids.{id_eq}
use Rattle.arch_base.specs.declared.ids.ObjectId.{ObjectId}
use Rattle.std.specs.Ordering.{nat_cmp}
use Rattle.std.specs.BTreeSet.{BTreeSet, contains}
use Rattle.git_objects.specs.declared.entry_kind.EntryKind.{EntryKind}
use Rattle.git_objects.specs.declared.entry_kind.EntryKind.TheVariants.{Message, Deletion}
use Rattle.arch_model.specs.Archives.{is_message}
use Rattle.store_finding.specs.declared.entries.StoredEntry.{StoredEntry}
use Rattle.epoch_store.specs.Commands.{is_ended_in}
use Rattle.archive_core.specs.declared.placing.MessagePlace.{MessagePlace}

-- The places of the messages among entries, the first of which has this index. One is live if no
-- later entry ends it.
abbrev pub message_places : ℕ → List StoredEntry → List MessagePlace
message_places index [] = []
message_places index (e ∷ es) =
    if is_message e.seen.kind then record {
      number = e.number;
      entry = index;
      live = not (is_ended_in es e.number);
    } ∷ message_places (index + 1) es
    else message_places (index + 1) es

-- A place that is no longer live, if it is that of a number.
abbrev pub ended_place : ℕ → MessagePlace → MessagePlace
ended_place number p = record {
  number = p.number;
  entry = p.entry;
  live = if p.number == number then false else p.live;
}

-- The places with those of a number no longer live.
abbrev pub ends_place : ℕ → List MessagePlace → List MessagePlace
ends_place number [] = []
ends_place number (p ∷ ps) = ended_place number p ∷ ends_place number ps

-- Whether a set of numbers has this one.
abbrev pub has_ended : BTreeSet ℕ → ℕ → Bool
has_ended ended number = contains nat_cmp ended number

-- What an entry adds to the places of later ones, which are in the order from the last to the first,
-- and to the numbers that later ones end. A message has a place, and a deletion ends a number.
abbrev pub PlacesBy : EntryKind → List MessagePlace → List MessagePlace → BTreeSet ℕ → BTreeSet ℕ
    → StoredEntry → ℕ → Type 0
PlacesBy Message old new ended more e index = (new ≡ old ++ record {
  number = e.number;
  entry = index;
  live = not (has_ended ended e.number);
} ∷ []) × ((q : ℕ) → has_ended more q ≡ has_ended ended q)
PlacesBy Deletion old new ended more e index =
    (new ≡ old) × ((q : ℕ) → has_ended more q ≡ (e.number == q || has_ended ended q))

-- Numbers rise from one place to the next, from this one on.
abbrev pub PlacesFrom : ℕ → List MessagePlace → Type 0
PlacesFrom number [] = Unit {0}
PlacesFrom number (p ∷ ps) = (number ≤ p.number) × PlacesFrom (p.number + 1) ps

-- Numbers rise from one place to the next.
abbrev pub PlacesRise : List MessagePlace → Type 0
PlacesRise places = PlacesFrom 0 places

-- A place with this number may follow places whose numbers rise.
abbrev pub PlaceMayFollow : List MessagePlace → ℕ → Type 0
PlaceMayFollow places number = (entry : ℕ) → PlacesRise places
    → PlacesRise (places ++ record { number = number; entry = entry; live = true } ∷ [])

-- A live place has this number.
abbrev pub live_place : List MessagePlace → ℕ → Bool
live_place places n = list_any (λ (p : MessagePlace). p.live && p.number == n) places

-- The index of a place of a number. Where numbers rise, none is found only if no place has it.
abbrev pub IsPlaceOfNumber : List MessagePlace → ℕ → Option ℕ → Type 0
IsPlaceOfNumber places number (Some index) =
    (p : MessagePlace) × (slice_get places index ≡ Some p) × (p.number ≡ number)
IsPlaceOfNumber places number None = PlacesRise places
    → (index : ℕ) (p : MessagePlace) → slice_get places index ≡ Some p → p.number ≢ number

-- An entry, if there is one, has a blob id.
abbrev pub found_blob : Option StoredEntry → ObjectId → Bool
found_blob None blob = false
found_blob (Some e) blob = id_eq blob e.seen.blob

-- The entry at an index has a blob id.
abbrev pub has_blob_at : List StoredEntry → ℕ → ObjectId → Bool
has_blob_at entries index blob = found_blob (slice_get entries index) blob

-- The number of a live place whose entry has a blob id, or none has.
abbrev pub IsLiveWith : List MessagePlace → List StoredEntry → ObjectId → Option ℕ → Type 0
IsLiveWith places entries blob None = (i : ℕ) (p : MessagePlace) → slice_get places i ≡ Some p
    → p.live ≡ true → has_blob_at entries p.entry blob ≡ false
IsLiveWith places entries blob (Some number) = (i : ℕ) × (p : MessagePlace)
    × (slice_get places i ≡ Some p) × (p.number ≡ number) × (p.live ≡ true)
    × (has_blob_at entries p.entry blob ≡ true)
