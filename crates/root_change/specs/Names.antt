-- Which files a root names, and how many bytes of each count.
use Rattle.std.specs.Prelude.{◌≡◌, ◌≢◌, ◌==◌, ◌&&◌, nat_lt, Bool, true, false, cond, if◌then◌else◌, ℕ, get_or, Some, None, refl}
use Rattle.std.specs.BTreeMap.{is_at}
use Rattle.std.proofs.Common.{ap}
use Rattle.disk_model.specs.declared.name.FileKind.{FileKind}
use Rattle.disk_model.specs.declared.name.FileKind.TheVariants as kind
use Rattle.disk_model.specs.declared.name.FileName.{FileName}
use Rattle.disk_model.specs.Name.{name_cmp}
use Rattle.disk_model.specs.Sizes.{epoch_count}
use Rattle.disk_model.specs.Images.{at_other}
use Rattle.root_slots.specs.declared.root.Place.{Place}
use Rattle.root_slots.specs.declared.root.Root.{Root}
use Rattle.root_slots.specs.RootName.{root_name}
use Rattle.root_slots.specs.Valid.{no_place}
use Rattle.disk_model.specs.Beside.{Bounds}

-- The file of a map of a generation.
abbrev pub map_name : ℕ → FileName
map_name generation = record { kind = kind.Map; number = 0; generation = generation }

-- The file of an epoch of a generation.
abbrev pub epoch_name : ℕ → ℕ → FileName
epoch_name e generation = record { kind = kind.Epoch; number = e; generation = generation }

-- The file of a cache of a generation.
abbrev pub cache_name : ℕ → FileName
cache_name generation = record { kind = kind.Cache; number = 0; generation = generation }

-- The `Place` that a root has for a part of an archive: the map, an epoch, or the cache. Other
-- parts have none.
abbrev pub place_of : Root → FileKind → ℕ → Place
place_of root kind.Root number = no_place
place_of root kind.Map number = if number == 0 then root.map else no_place
place_of root kind.Epoch number = get_or root.epochs number no_place
place_of root kind.Cache number = if number == 0 then root.cache else no_place

-- A `Place` has bytes and this generation.
abbrev pub has_place : Place → ℕ → Bool
has_place place generation = nat_lt 0 place.length && place.generation == generation

-- Whether a root names a file, by the parts of its name: the root file itself; the map's, also
-- without bytes; that of an epoch or a cache that has bytes.
abbrev pub named_by : Root → FileKind → ℕ → ℕ → Bool
named_by root kind.Root number generation = number == 0 && generation == 0
named_by root kind.Map number generation = number == 0 && generation == root.map.generation
named_by root kind.Epoch number generation =
    nat_lt number epoch_count && has_place (get_or root.epochs number no_place) generation
named_by root kind.Cache number generation = number == 0 && has_place root.cache generation

-- Whether a root names a file.
abbrev pub names_file : Root → FileName → Bool
names_file root name = named_by root name.kind name.number name.generation

-- Whether a name is that of the root file, by the parts of the name.
abbrev pub root_by : FileKind → ℕ → ℕ → Bool
root_by kind.Root number generation = number == 0 && generation == 0
root_by _ number generation = false

-- Whether a name is that of the root file.
abbrev pub is_root_name : FileName → Bool
is_root_name name = root_by name.kind name.number name.generation

-- The number of bytes of a file that count by a root, 0 for a file that it doesn't name.
abbrev pub named_end : Root → FileName → ℕ
named_end root name =
    if names_file root name then (place_of root name.kind name.number).length else 0

-- The bounds that keep all that a root names: the root file may not be changed, and each other file
-- only after the bytes that count.
abbrev pub bounds_of : Root → Bounds
bounds_of root name = cond (is_at (name_cmp root_name) name) None (Some (named_end root name))

-- The bound of any file but the root file.
pub other_bound : (root : Root) (name : FileName) → name ≢ root_name
    → bounds_of root name ≡ Some (named_end root name)
other_bound root name apart = rw (at_other root_name name apart) refl

-- No byte of a file counts that isn't named.
pub named_none : (root : Root) (name : FileName) → names_file root name ≡ false
    → named_end root name ≡ 0
named_none root name isnt =
    ap (λ (b : Bool). if b then (place_of root name.kind name.number).length else 0) isnt

-- The bytes of a file that is named count up to the length of its `Place`.
pub named_some : (root : Root) (name : FileName) → names_file root name ≡ true
    → named_end root name ≡ (place_of root name.kind name.number).length
named_some root name is =
    ap (λ (b : Bool). if b then (place_of root name.kind name.number).length else 0) is
