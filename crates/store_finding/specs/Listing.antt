-- The names of the files of a disk.
use Rattle.std.specs.Prelude.{IsSome, List, ◌↔◌}
use Rattle.std.specs.List.{Contains}
use Rattle.std.specs.List.Sorted.{IsStrictlySortedBy}
use Rattle.disk_model.specs.Name.{name_cmp}
use Rattle.disk_model.specs.Disk.{Content}
use Rattle.disk_model.specs.declared.name.FileName.{FileName}

-- The names of all files that are there, each once, in the order of names.
pub record AreAllNames (names : List FileName) (k : Content) : Type 0 where
  pub in_order : IsStrictlySortedBy name_cmp names
  pub all : (name : FileName) → IsSome (k name).seen ↔ Contains names name
