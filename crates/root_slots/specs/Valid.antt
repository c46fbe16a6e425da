-- Which roots are valid.
use Rattle.std.specs.Prelude.{◌≡◌, ◌<◌, ◌≤◌, ◌*◌, ◌-◌, ◌^◌, ℕ, length, get_or}
use Rattle.std.specs.List.{All}
use Rattle.arch_base.specs.Configs.{IsConfig}
use Rattle.arch_base.specs.Names.{IsArchiveName}
use Rattle.disk_model.specs.Sizes.{epoch_count, record_size}
use Rattle.root_slots.specs.declared.root.Place.{Place}
use Rattle.root_slots.specs.declared.root.Root.{Root}

-- The default for an index past the end of a list of places.
abbrev pub no_place : Place
no_place = record { generation = 0; length = 0 }

-- The numbers of a place fit their fields.
pub record PlaceFits (p : Place) : Type 0 where
  pub generation : p.generation < 2 ^ 64
  pub length : p.length < 2 ^ 64

-- The values of a root fit their fields.
pub record RootFits (r : Root) : Type 0 where
  pub name : IsArchiveName r.config.name
  pub sequence : r.sequence < 2 ^ 64
  pub map : PlaceFits r.map
  pub epochs : (i : ℕ) → i < epoch_count → PlaceFits (get_or r.epochs i no_place)
  pub count : length r.epochs ≡ epoch_count
  pub cache : PlaceFits r.cache

-- The generation is at most the sequence, and 0 if the length is 0.
pub record PlaceIsValid (sequence : ℕ) (p : Place) : Type 0 where
  pub generation : p.generation ≤ sequence
  pub empty : p.length ≡ 0 → p.generation ≡ 0

-- The ranges of a root: settings, next number, the map's length by the form, and generations.
pub record IsRoot (r : Root) : Type 0 where
  pub config : IsConfig r.config
  pub next_least : 1 ≤ r.next
  pub next_most : r.next ≤ 2147483648
  pub map_gen : r.map.generation ≤ r.sequence
  pub map_length : r.map.length ≡ record_size r.config.form * (r.next - 1)
  pub epochs : All (PlaceIsValid r.sequence) r.epochs
  pub cache : PlaceIsValid r.sequence r.cache
