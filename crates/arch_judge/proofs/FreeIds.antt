-- Of one id more than a map by ids has, one isn't in it.
use Rattle.std.specs.Prelude.{◌≡◌, ◌<◌, ◌||◌, ℕ, zero, suc, Bool, true, false, cond, List, [], ◌∷◌, length, Option, Some, None, IsSome, refl}
use Rattle.std.specs.Str.{bytes_eq}
use Rattle.std.specs.Ordering.{nat_cmp}
use Rattle.std.specs.Cmp.Lexicographic.{slice_cmp}
use Rattle.std.specs.List.{list_any, AllByRecursion, IsDistinct}
use Rattle.std.specs.Map.{lookup}
use Rattle.std.specs.BTreeMap.{BTreeMap, is_at}
use Rattle.std.specs.Global.{Vec}
use Rattle.std.proofs.Common.{◌∙◌, sym, ap, arith}
use Rattle.std.proofs.lemmas.Cmp.{nat_list_eq_equiv}
use Rattle.std.proofs.lemmas.Map.Text.{is_eq-slice_cmp}
use Rattle.std.proofs.lemmas.Map.Steps.{length-le_from_keys}
use Rattle.std.proofs.lemmas.Slice.Eq.{bytes_eq-Decides}
use Rattle.arch_judge.specs.Indexes.{owner_in}
use Rattle.arch_judge.specs.declared.index.Owner.{Owner}

not_true : (t : Bool) → (t ≡ true → ⊥) → t ≡ false
not_true true h = absurd (h refl)
not_true false h = refl

is_some : {X : Type 0} (o : Option X) → (o ≡ None → ⊥) → IsSome o
is_some None h = absurd (h refl)
is_some (Some x) h = refl

module _ (ids : ℕ → List ℕ) where
  -- So many ids, the last of them first.
  abbrev first_ids : ℕ → List (List ℕ)
  first_ids zero = []
  first_ids (suc m) = ids m ∷ first_ids m

  first-length : (m : ℕ) → length (first_ids m) ≡ m
  first-length zero = refl
  first-length (suc m) = ap suc (first-length m)

  first-is : (m : ℕ) (q : List ℕ) → list_any (bytes_eq q) (first_ids m) ≡ true → (j : ℕ) × (j < m) × (q ≡ ids j)
  first-is zero q some = absurd (cc)
  first-is (suc m) q some = by (bytes_eq q (ids m)) refl (λ more. first-is m q more) where
    by : (t : Bool) → bytes_eq q (ids m) ≡ t → (list_any (bytes_eq q) (first_ids m) ≡ true → (j : ℕ) × (j < m) × (q ≡ ids j)) → (j : ℕ) × (j < suc m) × (q ≡ ids j)
    by true here rest = (m, omega arith, (bytes_eq-Decides q (ids m)).0 here)
    by false there rest =
        let found = rest (ap (λ (t : Bool). t || list_any (bytes_eq q) (first_ids m)) (sym there) ∙ some) in
        let low = found.1 in
        (found.0, omega (arith, low), found.2)

  apart : (n m : ℕ) → ((j : ℕ) → j < m → ids n ≡ ids j → ⊥) → AllByRecursion (λ (y : List ℕ). bytes_eq (ids n) y ≡ false) (first_ids m)
  apart n zero other = tt
  apart n (suc m) other = (not_true (bytes_eq (ids n) (ids m)) (λ same. other m (omega arith) ((bytes_eq-Decides (ids n) (ids m)).0 same)), apart n m (λ j l. other j (omega (arith, l))))

  first-distinct : (m : ℕ) → ((j k : ℕ) → j < m → k < m → ids j ≡ ids k → j ≡ k) → IsDistinct bytes_eq (first_ids m)
  unfolding IsDistinct
  first-distinct zero once = tt
  first-distinct (suc m) once = (apart m m (λ j l same. (let equal : m ≡ j = once m j (omega arith) (omega (arith, l)) same in absurd (omega (arith, equal, l)))), first-distinct m (λ j k a b. once j k (omega (arith, a)) (omega (arith, b))))

-- The entries of a map with their ids as bytes.
abbrev plain : {X : Type 0} → List (Vec ℕ × X) → List (List ℕ × X)
plain [] = []
plain (e ∷ es) = (e.0.items, e.1) ∷ plain es

plain-length : {X : Type 0} (es : List (Vec ℕ × X)) → length (plain es) ≡ length es
plain-length [] = refl
plain-length (e ∷ es) = ap suc (plain-length es)

plain-found : {X : Type 0} (q : List ℕ) (es : List (Vec ℕ × X)) → lookup (bytes_eq q) (plain es) ≡ lookup (is_at (λ (k : Vec ℕ). slice_cmp nat_cmp q k.items)) es
plain-found q [] = refl
plain-found {X} q (e ∷ es) =
    ap (λ (t : Bool). cond t (Some e.1) (lookup (bytes_eq q) (plain es))) (sym (is_eq-slice_cmp q e.0.items))
    ∙ ap (λ (o : Option X). cond (is_at (λ (k : Vec ℕ). slice_cmp nat_cmp q k.items) e.0) (Some e.1) o) (plain-found q es)

-- Different ids that are all in a map are no more than it has.
pub one-free : (owners : BTreeMap (Vec ℕ) Owner) (ids : ℕ → List ℕ) (m : ℕ) → length owners.entries < m → ((j k : ℕ) → j < m → k < m → ids j ≡ ids k → j ≡ k) → ((j : ℕ) → j < m → owner_in owners (ids j) ≡ None → ⊥) → ⊥
one-free owners ids m over once there =
    let few = length-le_from_keys nat_list_eq_equiv (first_ids ids m) (plain owners.entries) (first-distinct ids m once)
    (λ q some. (
    let found = first-is ids m q some in
    is_some (lookup (bytes_eq q) (plain owners.entries)) (λ none. there found.0 found.1 (ap (owner_in owners) (sym found.2) ∙ sym (plain-found q owners.entries) ∙ none)))) in
    omega (arith, over, few, first-length ids m, plain-length owners.entries)
