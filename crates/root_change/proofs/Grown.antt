-- The names of an epoch's file and of a map's: they are apart from each other, and a root names them.
use Rattle.std.specs.Prelude.{◌≡◌, ◌≢◌, ◌<◌, ◌==◌, nat_lt, ℕ, true, refl}
use Rattle.std.proofs.Common.{ap, arith}
use Rattle.std.proofs.lemmas.Bool.{and_from}
use Rattle.disk_model.specs.declared.name.FileKind.TheVariants as kind
use Rattle.disk_model.specs.declared.name.FileName.{FileName}
use Rattle.disk_model.specs.Name.{kind_index}
use Rattle.root_slots.specs.declared.root.Root.{Root}
use Rattle.root_slots.specs.RootName.{root_name}
use Rattle.root_change.specs.Names.{map_name, epoch_name, place_of, has_place, names_file}
use Rattle.root_change.proofs.Roots.{same_test, less_test}

-- The files of different kinds are different.
pub epoch_isnt_root : (e generation : ℕ) → epoch_name e generation ≢ root_name
epoch_isnt_root e generation is = let wrong : kind_index (epoch_name e generation).kind ≡ kind_index root_name.kind = ap (λ (f : FileName). kind_index f.kind) is in absurd (omega (arith, wrong))

pub map_isnt_root : (generation : ℕ) → map_name generation ≢ root_name
map_isnt_root generation is = let wrong : kind_index (map_name generation).kind ≡ kind_index root_name.kind = ap (λ (f : FileName). kind_index f.kind) is in absurd (omega (arith, wrong))

pub epoch_isnt_map : (e m n : ℕ) → epoch_name e m ≢ map_name n
epoch_isnt_map e m n is = let wrong : kind_index (epoch_name e m).kind ≡ kind_index (map_name n).kind = ap (λ (f : FileName). kind_index f.kind) is in absurd (omega (arith, wrong))

-- Neither is a cache's.
pub epoch_no_cache : (e generation : ℕ) → (epoch_name e generation).kind ≢ kind.Cache
epoch_no_cache e generation is = let wrong : kind_index (epoch_name e generation).kind ≡ kind_index kind.Cache = ap kind_index is in absurd (omega (arith, wrong))

pub map_no_cache : (generation : ℕ) → (map_name generation).kind ≢ kind.Cache
map_no_cache generation is = let wrong : kind_index (map_name generation).kind ≡ kind_index kind.Cache = ap kind_index is in absurd (omega (arith, wrong))

-- A root names the file of an epoch that has bytes, and that of its map.
pub epoch_is_named : (root : Root) (e generation : ℕ) → e < 64 → 0 < (place_of root kind.Epoch e).length → (place_of root kind.Epoch e).generation ≡ generation → names_file root (epoch_name e generation) ≡ true
epoch_is_named root e generation below some is =
    let place = place_of root kind.Epoch e in
    and_from (nat_lt e 64) (has_place place generation) (less_test e 64 below) (and_from (nat_lt 0 place.length) (place.generation == generation) (less_test 0 place.length some) (same_test place.generation generation is))

pub map_is_named : (root : Root) (generation : ℕ) → generation ≡ root.map.generation → names_file root (map_name generation) ≡ true
map_is_named root generation is = and_from (0 == 0) (generation == root.map.generation) (same_test 0 0 refl) (same_test generation root.map.generation is)
