-- The order of the names of files: by kind as declared, then by number, then by generation.
use Rattle.std.specs.Prelude.{ℕ}
use Rattle.std.specs.Ordering.{nat_cmp, ordering_then}
use Rattle.std.specs.declared.cmp.Ordering.{Ordering}
use Rattle.disk_model.specs.declared.name.FileKind.{FileKind}
use Rattle.disk_model.specs.declared.name.FileKind.TheVariants.{Root, Map, Epoch, Cache}
use Rattle.disk_model.specs.declared.name.FileName.{FileName}

-- The index of a kind among the kinds, in the order of their declaration.
abbrev pub kind_index : FileKind → ℕ
kind_index Root = 0
kind_index Map = 1
kind_index Epoch = 2
kind_index Cache = 3

-- How two names compare.
abbrev pub name_cmp : FileName → FileName → Ordering
name_cmp a b = ordering_then (nat_cmp (kind_index a.kind) (kind_index b.kind))
    (ordering_then (nat_cmp a.number b.number) (nat_cmp a.generation b.generation))
