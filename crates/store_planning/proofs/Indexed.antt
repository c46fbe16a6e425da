-- Plans by their index: the one of a part is replaced by one with more bytes, or added.
use Rattle.std.specs.Prelude.{◌≡◌, ℕ, zero, suc, Bool, true, false, if◌then◌else◌, List, [], ◌∷◌, ◌++◌, get_or, slice_get, slice_set, Some, None, Result, Ok, Err, OnOk, OnErr, refl}
use Rattle.std.proofs.Common.{◌∙◌, sym, ap, subst, inl, inr}
use Rattle.std.proofs.lemmas.Option.{get_or_from_slice_get, same_Some}
use Rattle.disk_model.specs.declared.name.FileKind.{FileKind}
use Rattle.disk_model.specs.declared.name.FileKind.TheVariants as kind
use Rattle.root_change.specs.declared.plan.Target.TheVariants.{Behind}
use Rattle.root_change.specs.Rewriting.{Plan, AreApart, IsPlan, no_plan, plan_of, with_bytes}
use Rattle.root_change.proofs.Drops.{true_or_false}
use Rattle.root_change.proofs.PlanParts.{found, is_of, is_of_own, none_found}
use Rattle.store_planning.specs.Planning.{AreValid, IsPlanIndex, IsPlanning, Planning, Pushes, plans_with, with_record}
use Rattle.store_planning.proofs.Messaged.{same_first}
use Rattle.store_planning.proofs.Planned.{each_plan, of_first, of_rest}

-- The plan that was found.
pub taken : (inside now : Planning) (k : FileKind) (n i : ℕ) (old : Plan) → inside ≡ now → IsPlanIndex now.plans k n (Some i) → old ≡ get_or inside.plans i old → (slice_get inside.plans i ≡ Some old) × (plan_of inside.plans k n ≡ Some old)
taken inside now k n i old is at value =
    let same : inside.plans ≡ now.plans = ap (λ (p : Planning). p.plans) is in
    let here : slice_get inside.plans i ≡ Some at.0 = ap (λ (l : List Plan). slice_get l i) same ∙ at.1 in
    let old_is : old ≡ at.0 = value ∙ get_or_from_slice_get inside.plans i at.0 old here in
    (here ∙ ap (λ (q : Plan). Some q) (sym old_is), ap (λ (l : List Plan). plan_of l k n) same ∙ (at.2 ∙ ap (λ (q : Plan). Some q) (sym old_is)))

-- An index is that of the first plan of a part.
abbrev IsFirst : List Plan → FileKind → ℕ → ℕ → Type 0
IsFirst [] k n i = ⊥
IsFirst (q ∷ qs) k n zero = is_of q k n ≡ true
IsFirst (q ∷ qs) k n (suc i) = (is_of q k n ≡ false) × IsFirst qs k n i

first_is : (plans : List Plan) (k : FileKind) (n i : ℕ) (p : Plan) → AreApart plans → slice_get plans i ≡ Some p → plan_of plans k n ≡ Some p → IsFirst plans k n i
first_is [] k n i p apart here of = absurd (let wrong : None ≡ Some p = here in cc)
first_is (q ∷ qs) k n zero p apart here of =
    let at = found (q ∷ qs) k n p of in
    subst (λ (x : Plan). is_of x k n ≡ true) (sym (same_Some q p here)) (is_of_own p k n at.kind_is at.number_is)
first_is (q ∷ qs) k n (suc i) p apart here of = elim (true_or_false (is_of q k n)) [
  | inl is ↦
      let same : p ≡ q = sym (same_Some q p (sym (of_first q qs k n is) ∙ of)) in
      let hit = is_of_own p q.kind q.number (ap (λ (x : Plan). x.kind) same) (ap (λ (x : Plan). x.number) same) in
      absurd (let wrong : true ≡ false = sym hit ∙ none_found qs q.kind q.number i p apart.0 here in cc)
  | inr isnt ↦ (isnt, first_is qs k n i p apart.1 here (sym (of_rest q qs k n isnt) ∙ of))
]

-- It is replaced by one with more bytes.
set_epoch : (plans : List Plan) (e : ℕ) (bytes : List ℕ) (i : ℕ) (p : Plan) → slice_get plans i ≡ Some p → IsFirst plans kind.Epoch e i → slice_set plans i (with_bytes p bytes) ≡ plans_with plans e bytes
set_epoch [] e bytes i p here first = absurd first
set_epoch (q ∷ qs) e bytes zero p here first =
    ap (λ (x : Plan). with_bytes x bytes ∷ qs) (sym (same_Some q p here)) ∙ ap (λ (b : Bool). if b then with_bytes q bytes ∷ qs else q ∷ plans_with qs e bytes) (sym first)
set_epoch (q ∷ qs) e bytes (suc i) p here first =
    ap (λ (l : List Plan). q ∷ l) (set_epoch qs e bytes i p here first.1) ∙ ap (λ (b : Bool). if b then with_bytes q bytes ∷ qs else q ∷ plans_with qs e bytes) (sym first.0)

set_map : (plans : List Plan) (bytes : List ℕ) (i : ℕ) (p : Plan) → slice_get plans i ≡ Some p → IsFirst plans kind.Map 0 i → slice_set plans i (with_bytes p bytes) ≡ with_record plans bytes
set_map [] bytes i p here first = absurd first
set_map (q ∷ qs) bytes zero p here first =
    ap (λ (x : Plan). with_bytes x bytes ∷ qs) (sym (same_Some q p here)) ∙ ap (λ (b : Bool). if b then with_bytes q bytes ∷ qs else q ∷ with_record qs bytes) (sym first)
set_map (q ∷ qs) bytes (suc i) p here first =
    ap (λ (l : List Plan). q ∷ l) (set_map qs bytes i p here first.1) ∙ ap (λ (b : Bool). if b then with_bytes q bytes ∷ qs else q ∷ with_record qs bytes) (sym first.0)

-- Or there was none, and one is added.
added : (plans : List Plan) (e : ℕ) (bytes : List ℕ) → plan_of plans kind.Epoch e ≡ None → plans ++ with_bytes (no_plan kind.Epoch e Behind) bytes ∷ [] ≡ plans_with plans e bytes
added [] e bytes none = refl
added (q ∷ qs) e bytes none = elim (true_or_false (is_of q kind.Epoch e)) [
  | inl is ↦ absurd (let wrong : Some q ≡ None = sym (of_first q qs kind.Epoch e is) ∙ none in cc)
  | inr isnt ↦
      ap (λ (l : List Plan). q ∷ l) (added qs e bytes (sym (of_rest q qs kind.Epoch e isnt) ∙ none))
      ∙ ap (λ (b : Bool). if b then with_bytes q bytes ∷ qs else q ∷ plans_with qs e bytes) (sym isnt)
]

-- What holds of each plan holds of each with one in the place of another.
each_set : (P : Plan → Type 0) (plans : List Plan) (i : ℕ) (x : Plan) → ((j : ℕ) (p : Plan) → slice_get plans j ≡ Some p → P p) → P x → (j : ℕ) (p : Plan) → slice_get (slice_set plans i x) j ≡ Some p → P p
each_set P [] i x each one j p here = each j p here
each_set P (q ∷ qs) zero x each one zero p here = subst P (same_Some x p here) one
each_set P (q ∷ qs) zero x each one (suc j) p here = each (suc j) p here
each_set P (q ∷ qs) (suc i) x each one zero p here = each zero p here
each_set P (q ∷ qs) (suc i) x each one (suc j) p here = each_set P qs i x (λ k r there. each (suc k) r there) one j p here

-- One of the same part in its place.
none_set : (plans : List Plan) (i : ℕ) (p x : Plan) (k : FileKind) (n : ℕ) → slice_get plans i ≡ Some p → x.kind ≡ p.kind → x.number ≡ p.number → plan_of plans k n ≡ None → plan_of (slice_set plans i x) k n ≡ None
none_set [] i p x k n here k_is n_is none = none
none_set (q ∷ qs) zero p x k n here k_is n_is none = elim (true_or_false (is_of q k n)) [
  | inl is ↦ absurd (let wrong : Some q ≡ None = sym (of_first q qs k n is) ∙ none in cc)
  | inr isnt ↦
      let same : p ≡ q = sym (same_Some q p here) in
      same_first x q qs qs k n (k_is ∙ ap (λ (r : Plan). r.kind) same) (n_is ∙ ap (λ (r : Plan). r.number) same) isnt refl ∙ none
]
none_set (q ∷ qs) (suc i) p x k n here k_is n_is none = elim (true_or_false (is_of q k n)) [
  | inl is ↦ absurd (let wrong : Some q ≡ None = sym (of_first q qs k n is) ∙ none in cc)
  | inr isnt ↦ of_rest q (slice_set qs i x) k n isnt ∙ none_set qs i p x k n here k_is n_is (sym (of_rest q qs k n isnt) ∙ none)
]

apart_set : (plans : List Plan) (i : ℕ) (p x : Plan) → slice_get plans i ≡ Some p → x.kind ≡ p.kind → x.number ≡ p.number → AreApart plans → AreApart (slice_set plans i x)
apart_set [] i p x here k_is n_is apart = absurd (let wrong : None ≡ Some p = here in cc)
apart_set (q ∷ qs) zero p x here k_is n_is apart =
    let same : q ≡ p = same_Some q p here in (
      subst (λ (m : ℕ). plan_of qs x.kind m ≡ None) (ap (λ (r : Plan). r.number) same ∙ sym n_is) (subst (λ (k : FileKind). plan_of qs k q.number ≡ None) (ap (λ (r : Plan). r.kind) same ∙ sym k_is) apart.0),
      apart.1,
    )
apart_set (q ∷ qs) (suc i) p x here k_is n_is apart = (none_set qs i p x q.kind q.number here k_is n_is apart.0, apart_set qs i p x here k_is n_is apart.1)

-- So what always holds of a planner still does.
set_so : (top i : ℕ) (p : Planning) (old new : Plan) → IsPlanning top p → slice_get p.plans i ≡ Some old → new.kind ≡ old.kind → new.number ≡ old.number → IsPlan new
    → IsPlanning top (record { plans = slice_set p.plans i new; entries = p.entries; gone = p.gone; current = p.current; form = p.form })
set_so top i p old new is here k_is n_is valid = record { apart = apart_set p.plans i old new here k_is n_is is.apart; valid = each_set IsPlan p.plans i new is.valid valid; gone = is.gone; form = is.form }

pub planning_set : {T E : Type 0} (top i : ℕ) (p : Planning) (old new : Plan) (bytes : List ℕ) (result : Result T E) → IsPlanning top p → slice_get p.plans i ≡ Some old → OnOk result (new ≡ with_bytes old bytes) → OnOk result (IsPlan new) → OnErr result (new ≡ old)
    → IsPlanning top (record { plans = slice_set p.plans i new; entries = p.entries; gone = p.gone; current = p.current; form = p.form })
planning_set top i p old new bytes (Ok done) is here more valid stays = set_so top i p old new is here (ap (λ (x : Plan). x.kind) more) (ap (λ (x : Plan). x.number) more) valid
planning_set top i p old new bytes (Err refused) is here more valid stays = set_so top i p old new is here (ap (λ (x : Plan). x.kind) stays) (ap (λ (x : Plan). x.number) stays) (subst IsPlan (sym stays) (is.valid i old here))

-- A planner with other plans.
abbrev pub with_plans : Planning → List Plan → Planning
with_plans p plans = record { plans = plans; entries = p.entries; gone = p.gone; current = p.current; form = p.form }

-- Bytes were added to the plan of an epoch, or a record to that of the map.
pub epoch_set : (inside now : Planning) (e i : ℕ) (bytes : List ℕ) (old new : Plan) → inside ≡ now → AreApart inside.plans → (slice_get inside.plans i ≡ Some old) × (plan_of inside.plans kind.Epoch e ≡ Some old) → new ≡ with_bytes old bytes
    → with_plans inside (slice_set inside.plans i new) ≡ with_plans now (plans_with now.plans e bytes)
epoch_set inside now e i bytes old new same apart at more =
    ap (with_plans inside) (ap (slice_set inside.plans i) more ∙ set_epoch inside.plans e bytes i old at.0 (first_is inside.plans kind.Epoch e i old apart at.0 at.1))
    ∙ ap (λ (p : Planning). with_plans p (plans_with p.plans e bytes)) same

pub map_set : (inside now : Planning) (i : ℕ) (bytes : List ℕ) (old new : Plan) → inside ≡ now → AreApart inside.plans → (slice_get inside.plans i ≡ Some old) × (plan_of inside.plans kind.Map 0 ≡ Some old) → new ≡ with_bytes old bytes
    → (with_plans inside (slice_set inside.plans i new) ≡ with_plans now (with_record now.plans bytes)) × ((plan : Plan) × (plan_of now.plans kind.Map 0 ≡ Some plan))
map_set inside now i bytes old new same apart at more = (
  ap (with_plans inside) (ap (slice_set inside.plans i) more ∙ set_map inside.plans bytes i old at.0 (first_is inside.plans kind.Map 0 i old apart at.0 at.1))
      ∙ ap (λ (p : Planning). with_plans p (with_record p.plans bytes)) same,
  (old, ap (λ (p : Planning). plan_of p.plans kind.Map 0) (sym same) ∙ at.1),
)

pub valid_set : (inside now : Planning) (i : ℕ) (new : Plan) → inside ≡ now → AreValid inside.plans → IsPlan new → AreValid now.plans × AreValid (slice_set inside.plans i new)
valid_set inside now i new same valid one = (subst (λ (p : Planning). AreValid p.plans) same valid, each_set IsPlan inside.plans i new valid one)

-- A plan of an epoch was added.
pub epoch_more : (old now new : Planning) (e : ℕ) (bytes : List ℕ) (plan : Plan) → old ≡ now → plan_of now.plans kind.Epoch e ≡ None → plan ≡ with_bytes (no_plan kind.Epoch e Behind) bytes → Pushes old plan new → new ≡ with_plans now (plans_with now.plans e bytes)
epoch_more old now new e bytes plan same none plan_is pushes =
    pushes.0
    ∙ (ap (λ (p : Planning). with_plans p (p.plans ++ plan ∷ [])) same ∙ ap (with_plans now) (ap (λ (x : Plan). now.plans ++ x ∷ []) plan_is ∙ added now.plans e bytes none))

pub valid_more : (old now new : Planning) (plan : Plan) → old ≡ now → AreValid now.plans → IsPlan plan → Pushes old plan new → AreValid now.plans × AreValid new.plans
valid_more old now new plan same valid one pushes =
    (valid, subst AreValid (sym (ap (λ (p : Planning). p.plans) pushes.0 ∙ ap (λ (p : Planning). p.plans ++ plan ∷ []) same)) (each_plan IsPlan now.plans plan valid one))
