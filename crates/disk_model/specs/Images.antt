-- Lemmas for proofs: names that compare as equal are equal, and the files of an image are
-- independent of each other.
use Rattle.std.specs.Prelude.{◌≡◌, ◌≢◌, ◌⊎◌, ℕ, Bool, true, false, refl}
use Rattle.std.specs.Ordering.{nat_cmp, ordering_then}
use Rattle.std.specs.Cmp.{IsTotalOrder, Equal-is}
use Rattle.std.specs.BTreeMap.{is_at}
use Rattle.std.proofs.Common.{sym, ap, inl, inr}
use Rattle.std.specs.declared.cmp.Ordering.{Ordering}
use Rattle.std.specs.declared.cmp.Ordering.TheVariants.{Equal}
use Rattle.std.proofs.lemmas.Cmp.{then_total, on_total, nat_cmp_total, tied_itself}
use Rattle.std.proofs.lemmas.Map.Lookups.{CmpEqualImpliesEq, exact_pairs, exact_unsigned}
use Rattle.disk_model.specs.declared.name.FileKind.{FileKind}
use Rattle.disk_model.specs.declared.name.FileKind.TheVariants.{Root, Map, Epoch, Cache}
use Rattle.disk_model.specs.declared.name.FileName.{FileName}
use Rattle.disk_model.specs.Name.{kind_index, name_cmp}

-- The order of names is total.
pub names_total : IsTotalOrder name_cmp
names_total = then_total (on_total (λ (n : FileName). kind_index n.kind) nat_cmp_total)
    (then_total (on_total (λ (n : FileName). n.number) nat_cmp_total)
    (on_total (λ (n : FileName). n.generation) nat_cmp_total))

-- Kinds with equal indices are equal.
pub exact_kinds : (a b : FileKind) → nat_cmp (kind_index a) (kind_index b) ≡ Equal → a ≡ b
exact_kinds Root Root e = refl
exact_kinds Map Map e = refl
exact_kinds Epoch Epoch e = refl
exact_kinds Cache Cache e = refl
exact_kinds a b e = cc

-- Names that compare as equal are equal.
pub exact_names : CmpEqualImpliesEq name_cmp
exact_names a b e =
    let kinds : FileKind → FileKind → Ordering = λ x y. nat_cmp (kind_index x) (kind_index y) in
    let numbers = exact_pairs nat_cmp nat_cmp exact_unsigned exact_unsigned in
    let all =
    exact_pairs kinds (λ (x y : ℕ × ℕ). ordering_then (nat_cmp x.0 y.0) (nat_cmp x.1 y.1))
    exact_kinds numbers in
    let make : FileKind × (ℕ × ℕ) → FileName =
    λ p. record { kind = p.0; number = p.1.0; generation = p.1.1 } in
    ap make (all (a.kind, (a.number, a.generation)) (b.kind, (b.number, b.generation)) e)

-- A name found at a name is that name.
pub same_name : (a b : FileName) → is_at (name_cmp a) b ≡ true → b ≡ a
same_name a b e = sym (exact_names a b ((Equal-is (name_cmp a b)).0 e))

-- A name is found at itself.
pub at_itself : (name : FileName) → is_at (name_cmp name) name ≡ true
at_itself name = (Equal-is (name_cmp name name)).1 (tied_itself names_total name)

-- A boolean that isn't true is false.
pub false_from_not : (b : Bool) → (b ≡ true → ⊥) → b ≡ false
false_from_not true isnt = absurd (isnt refl)
false_from_not false isnt = refl

-- A name is not found at another one.
pub at_other : (name other : FileName) → other ≢ name → is_at (name_cmp name) other ≡ false
at_other name other apart =
    false_from_not (is_at (name_cmp name) other) (λ e. apart (same_name name other e))

-- A name is this one or another.
pub same_or_other : (name other : FileName) → (other ≡ name) ⊎ (other ≢ name)
same_or_other name other = same_or_not (is_at (name_cmp name) other) refl where
  same_or_not : (b : Bool) → is_at (name_cmp name) other ≡ b → (other ≡ name) ⊎ (other ≢ name)
  same_or_not true e = inl (same_name name other e)
  same_or_not false e =
      inr (λ same. let back : is_at (name_cmp name) other ≡ true = rw same (at_itself name) in cc)
