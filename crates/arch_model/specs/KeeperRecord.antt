-- Lemmas for proofs: the record of a keeper, from those of its two traits.
use Rattle.arch_model.specs.declared.shelf.Shelf.{Ghosts as Shelf}
use Rattle.arch_model.specs.declared.keep.Keep.{Ghosts as Keep}
use Rattle.arch_model.specs.Keeping.{Keeper}

-- The members of both.
abbrev pub keeper : {K : Type 0} → Shelf K → Keep K → Keeper K
keeper s k = record {
  holds = s.holds;
  ready = s.ready;
  reads = s.reads;
  faults = s.faults;
  alike = s.alike;
  files_are = k.files_are;
  leaves = k.leaves;
  finds = k.finds;
  takes = k.takes;
}
