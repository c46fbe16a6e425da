-- The files that a root names for an archive.
use Rattle.std.specs.Prelude.{ℕ, get_or}
use Rattle.disk_model.specs.declared.name.FileName.{FileName}
use Rattle.root_slots.specs.declared.root.Root.{Root}
use Rattle.root_slots.specs.Valid.{no_place}
use Rattle.root_change.specs.Names.{map_name, epoch_name, cache_name}
pub use Rattle.root_change.specs.Texts.{as_read}

-- The file of the map that a root names.
abbrev pub map_file_of : Root → FileName
map_file_of root = map_name root.map.generation

-- The file of an epoch that a root names.
abbrev pub epoch_file_of : Root → ℕ → FileName
epoch_file_of root e = epoch_name e (get_or root.epochs e no_place).generation

-- The file of the cache that a root names.
abbrev pub cache_file_of : Root → FileName
cache_file_of root = cache_name root.cache.generation
