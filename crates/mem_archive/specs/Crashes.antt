-- Lemmas for `impl Keep`: what a crash leaves of an archive in memory: the archive.
use Rattle.std.specs.Prelude.{◌≡◌, true, List, Option, Some, refl}
use Rattle.std.specs.List.{Contains}
use Rattle.std.proofs.Common.{◌∙◌, sym, subst}
use Rattle.arch_model.specs.Archives.{Archive}
use Rattle.arch_model.specs.Delivery.{Delivers, applied}
use Rattle.arch_model.specs.Keeping.{Keeper, OnlyRead}

-- The archive in memory, as a keeper: it holds itself, is always ready, reads no disk, and a crash
-- leaves it.
abbrev pub in_memory : Keeper Archive
in_memory = record {
  holds = λ m a. a ≡ m;
  ready = λ m. true;
  reads = λ m. 0;
  faults = λ m. 0;
  alike = λ m n. n ≡ m;
  files_are = λ m a. a ≡ m;
  leaves = λ start m may. Contains may (Some m);
  finds = λ m n a. (a ≡ m) × (n ≡ m);
  takes = λ m n command moment reply. Delivers m reply n (applied m command moment);
}

-- The archive that is held is left.
pub held-left : (m a : Archive) (may : List (Option Archive)) → a ≡ m → Contains may (Some a)
    → Contains may (Some m)
held-left m a may same has = subst (λ (x : Archive). Contains may (Some x)) same has

-- A state that is the same was only read.
pub same-read : (m n : Archive) → n ≡ m → OnlyRead in_memory m n
same-read m n same = record {
  held = λ a is. is ∙ sym same;
  back = λ a is. is ∙ same;
  rested = λ a is. is ∙ sym same;
  same = refl;
  passes = λ start may has left. subst (λ (x : Archive). Contains may (Some x)) (sym same) left;
}
