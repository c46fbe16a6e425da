-- The plans of epochs before the first entry.
use Rattle.std.specs.Prelude.{◌≡◌, ◌+◌, ℕ, zero, suc, List, [], ◌∷◌, ◌++◌, length, slice_get, Some, None}
use Rattle.std.proofs.Common.{◌∙◌, sym, ap, subst, arith, length-append}
use Rattle.std.proofs.lemmas.Option.{same_Some}
use Rattle.disk_model.specs.declared.name.FileKind.TheVariants as kind
use Rattle.root_change.specs.declared.plan.Target.TheVariants.{Anew}
use Rattle.root_change.specs.Rewriting.{Plan, no_plan}
use Rattle.convert_planning.specs.ConvertSteps.{StartsPlans}

-- So many epochs have a plan.
pub record StartsTo (plans : List Plan) (n : ℕ) : Type 0 where
  pub count : length plans ≡ n
  pub each : (x : ℕ) (plan : Plan) → slice_get plans x ≡ Some plan → plan ≡ no_plan kind.Epoch x Anew

-- An item of a list with one more, at its place.
item_more : {A : Type 0} (P : ℕ → A → Type 0) (n : ℕ) (xs : List A) (x : A) → ((i : ℕ) (y : A) → slice_get xs i ≡ Some y → P (n + i) y) → P (n + length xs) x → (i : ℕ) (y : A) → slice_get (xs ++ x ∷ []) i ≡ Some y → P (n + i) y
item_more P n [] x each one zero y here = subst (P (n + 0)) (same_Some x y here) one
item_more P n [] x each one (suc i) y here = absurd (let wrong : None ≡ Some y = here in cc)
item_more P n (z ∷ zs) x each one zero y here = each zero y here
item_more {A} P n (z ∷ zs) x each one (suc i) y here =
    let at : n + 1 + i ≡ n + suc i = omega arith in
    let end_ : n + length (z ∷ zs) ≡ n + 1 + length zs = omega arith in
    subst (λ (m : ℕ). P m y) at (item_more P (n + 1) zs x (λ j w there. (let place : n + suc j ≡ n + 1 + j = omega arith in subst (λ (m : ℕ). P m w) place (each (suc j) w there))) (subst (λ (m : ℕ). P m x) end_ one) i y here)

pub starts_none : (plans : List Plan) → plans ≡ [] → StartsTo plans 0
starts_none plans is = record { count = ap length is; each = λ x plan here. absurd (let wrong : None ≡ Some plan = ap (λ (l : List Plan). slice_get l x) (sym is) ∙ here in cc) }

pub starts_more : (old new : List Plan) (n : ℕ) (plan : Plan) → StartsTo old n → plan ≡ no_plan kind.Epoch n Anew → new ≡ old ++ plan ∷ [] → StartsTo new (n + 1)
starts_more old new n plan so plan_is is =
    let size = length-append old (plan ∷ []) in
    let count = so.count in
    let last : plan ≡ no_plan kind.Epoch (length old) Anew = plan_is ∙ ap (λ (m : ℕ). no_plan kind.Epoch m Anew) (sym count) in
    record {
      count = (let long = ap length is in omega (arith, long, size, count));
      each = λ x q here. to_zero x q (item_more (λ (m : ℕ) (r : Plan). r ≡ no_plan kind.Epoch m Anew) 0 old plan (λ i r at. from_zero i r (so.each i r at)) (from_zero (length old) plan last) x q (ap (λ (l : List Plan). slice_get l x) (sym is) ∙ here));
    } where
      from_zero : (i : ℕ) (r : Plan) → r ≡ no_plan kind.Epoch i Anew → r ≡ no_plan kind.Epoch (0 + i) Anew
      from_zero i r same = same ∙ ap (λ (m : ℕ). no_plan kind.Epoch m Anew) (let at : i ≡ 0 + i = omega arith in at)

      to_zero : (i : ℕ) (r : Plan) → r ≡ no_plan kind.Epoch (0 + i) Anew → r ≡ no_plan kind.Epoch i Anew
      to_zero i r same = same ∙ ap (λ (m : ℕ). no_plan kind.Epoch m Anew) (let at : 0 + i ≡ i = omega arith in at)

pub starts_end : (plans : List Plan) (n : ℕ) → n ≡ 64 → StartsTo plans n → StartsPlans plans
starts_end plans n is so = record { count = so.count ∙ is; each = so.each }
