-- A plan that is built holds its sources and their number of bytes.
use Rattle.std.specs.Prelude.{◌≡◌, ℕ, ◌+◌, ◌<◌, ◌^◌, List, [], ◌∷◌, ◌++◌, length}
use Rattle.std.proofs.Common.{sym, subst, arith}
use Rattle.disk_model.specs.declared.name.FileKind.{FileKind}
use Rattle.disk_model.specs.declared.name.FileName.{FileName}
use Rattle.root_change.specs.declared.plan.Target.{Target}
use Rattle.root_change.specs.declared.sources.Source.{Source}
use Rattle.root_change.specs.declared.sources.Source.TheVariants.{Bytes, Range}
use Rattle.root_change.specs.Rewriting.{Plan, IsPlan, plan_count, with_bytes}
use Rattle.root_change.proofs.Pushes.{bytes_is_plan, range_is_plan, count_with_bytes, count_with_range}

-- A plan with this number of bytes.
abbrev pub Holds : Plan → ℕ → Type 0
Holds plan count = IsPlan plan × (count ≡ plan_count plan)

module _ (k : FileKind) (number : ℕ) (target : Target) (bytes : List ℕ) (sources : List Source) where
  abbrev plan : List ℕ → List Source → Plan
  plan bs ss = record { kind = k; number = number; target = target; bytes = bs; sources = ss }

  pub holds_bytes : (count all : ℕ) (more made : List ℕ) (after : List Source) → Holds (plan bytes sources) count → all ≡ count + length more → all < 2 ^ 62 → made ≡ bytes ++ more → after ≡ sources ++ Bytes (length bytes) (length more) ∷ [] → Holds (plan made after) all
  holds_bytes count all more made after holds all_is few made_is after_is =
      let size = holds.1 in
      let next : Holds (with_bytes (plan bytes sources) more) all = (
        bytes_is_plan (plan bytes sources) more holds.0 (omega (arith, size, all_is, few)),
        omega (arith, size, all_is, count_with_bytes (plan bytes sources) more),
      ) in
      subst (λ (ss : List Source). Holds (plan made ss) all) (sym after_is) (subst (λ (bs : List ℕ). Holds (plan bs (sources ++ Bytes (length bytes) (length more) ∷ [])) all) (sym made_is) next)

  pub holds_range : (count all : ℕ) (file : FileName) (offset size : ℕ) (after : List Source) → Holds (plan bytes sources) count → all ≡ count + size → all < 2 ^ 62 → offset + size < 2 ^ 62 → after ≡ sources ++ Range (record { file = file; offset = offset; count = size }) ∷ [] → Holds (plan bytes after) all
  holds_range count all file offset size after holds all_is few ends after_is =
      let was = holds.1 in
      subst (λ (ss : List Source). Holds (plan bytes ss) all) (sym after_is) (
        range_is_plan (plan bytes sources) file offset size holds.0 ends (omega (arith, was, all_is, few)),
        omega (arith, was, all_is, count_with_range (plan bytes sources) file offset size),
      )
