-- The epochs of entries that lie one after the other, and the lengths of epochs that are planned.
use Rattle.std.specs.Prelude.{◌≡◌, ◌+◌, ◌-◌, ◌≤◌, nat_lt, ℕ, Bool, true, false, if◌then◌else◌, List, [], ◌∷◌, ◌++◌, length, get_or, slice_get, Option, Some, None, unwrap_or, refl}
use Rattle.std.proofs.Common.{◌∙◌, sym, ap, subst, inl, inr, arith, length-append}
use Rattle.std.proofs.lemmas.Bool.Decides.{nat_tests}
use Rattle.disk_model.specs.declared.name.FileKind.TheVariants as kind
use Rattle.root_slots.specs.declared.root.Root.{Root}
use Rattle.root_slots.specs.Valid.{no_place}
use Rattle.root_change.specs.declared.plan.Target.{Target}
use Rattle.root_change.specs.declared.plan.Target.TheVariants.{Anew}
use Rattle.root_change.specs.Rewriting.{Plan, place_anew, place_by, place_planned, plan_count, plan_of}
use Rattle.epoch_file.specs.Lying.{tree_end}
use Rattle.store_finding.specs.declared.entries.StoredEntry.{StoredEntry}
use Rattle.store_finding.specs.Damage.{named_length}
use Rattle.store_finding.specs.Extents.{AreUpToEpoch, LieFrom, length_planned}
use Rattle.store_planning.proofs.Ends.{last_of}

-- The epochs of entries that lie one after the other never fall.
rises : (epoch from : ℕ) (es : List StoredEntry) (e : StoredEntry) → LieFrom epoch from (es ++ e ∷ []) → (epoch ≤ e.epoch) × AreUpToEpoch e.epoch (es ++ e ∷ [])
rises epoch from [] e lie = (lie.0.0, (omega arith, tt))
rises epoch from (f ∷ es) e lie =
    let rest = rises f.epoch (tree_end f.seen) es e lie.2 in
    let first = lie.0.0 in
    let low = rest.0 in
    (omega (arith, first, low), (low, rest.1))

last_item : {X : Type 0} (xs : List X) (x : X) → slice_get (xs ++ x ∷ []) (length (xs ++ x ∷ []) - 1) ≡ Some x
last_item {X} xs x =
    let place : length (xs ++ x ∷ []) - 1 ≡ length xs = omega (arith, length-append xs (x ∷ [])) in
    ap (slice_get (xs ++ x ∷ [])) place ∙ after xs where
      after : (ys : List X) → slice_get (ys ++ x ∷ []) (length ys) ≡ Some x
      after [] = refl
      after (y ∷ ys) = after ys

-- So none is in a later epoch than the last one.
pub up_to_last : (es : List StoredEntry) (last : StoredEntry) → LieFrom 0 0 es → slice_get es (length es - 1) ≡ Some last → AreUpToEpoch last.epoch es
up_to_last es last lie is = elim (last_of es) [
  | inl none ↦ subst (AreUpToEpoch last.epoch) (sym none) tt
  | inr some ↦
      let item_is : some.item ≡ last = ap (λ (o : Option StoredEntry). unwrap_or o last) (sym (last_item some.front some.item) ∙ (ap (λ (l : List StoredEntry). slice_get l (length l - 1)) (sym some.is) ∙ is)) in
      subst (λ (n : ℕ). AreUpToEpoch n es) (ap (λ (e : StoredEntry). e.epoch) item_is)
      (subst (AreUpToEpoch some.item.epoch) (sym some.is) (rises 0 0 some.front some.item (subst (LieFrom 0 0) some.is lie)).1)
]

pub up_to_none : (es : List StoredEntry) (epoch : ℕ) → es ≡ [] → AreUpToEpoch epoch es
up_to_none es epoch none = subst (AreUpToEpoch epoch) (sym none) tt

-- The number of bytes of a part that is written anew, or at its end.
pub anew_long : (next n : ℕ) → (place_anew next n).length ≡ n
anew_long next n = by (nat_lt 0 n) refl where
  by : (t : Bool) → nat_lt 0 n ≡ t → (if t then record { generation = next; length = n } else no_place).length ≡ n
  by true is = refl
  by false is = let none : 0 ≡ n = grind (arith, nat_tests, is) in none

pub none_planned : (root : Root) (plans : List Plan) (e : ℕ) → plan_of plans kind.Epoch e ≡ None → length_planned root plans e ≡ named_length root e
none_planned root plans e is = ap (λ (o : Option Plan). (place_planned (root.sequence + 1) o (get_or root.epochs e no_place)).length) is

pub anew_planned : (root : Root) (plans : List Plan) (e : ℕ) (q : Plan) → plan_of plans kind.Epoch e ≡ Some q → q.target ≡ Anew → length_planned root plans e ≡ plan_count q
anew_planned root plans e q is anew =
    ap (λ (o : Option Plan). (place_planned (root.sequence + 1) o (get_or root.epochs e no_place)).length) is
    ∙ (ap (λ (t : Target). (place_by (root.sequence + 1) t (get_or root.epochs e no_place) (plan_count q)).length) anew ∙ anew_long (root.sequence + 1) (plan_count q))
