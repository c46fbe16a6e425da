-- The plan at this index is the first of its part.
use Rattle.std.proofs.Common.{◌≡◌, ◌∙◌, ◌+◌, ◌<◌, List, ◌∷◌, Some, drop, length, get_or, slice_get, sym, ap, arith, rules}
use Rattle.std.proofs.lemmas.List.{drop_more}
use Rattle.std.proofs.lemmas.Option.{slice_get-get_or}
use Rattle.root_change.specs.Rewriting.{Plan, plan_of}
use Rattle.root_change.proofs.PlanParts.{is_of_own}
use Rattle.store_planning.specs.Planning.{Planning}
use Rattle.store_planning.proofs.Planned.{of_first}
use Rattle.store_planning.proofs.planning.Planner.find.Goals as goal

pub returns-then-number : goal.returns-then-number
returns-then-number c =
    let items = c.self.inside.plans.items in
    let at = c.loop-at.at in
    let p = c.index-plan.result.now in
    let same : items ≡ c.args.self.now.plans = ap (λ (q : Planning). q.plans) c.self.view_is in
    let below : at < length items = omega (arith, c.loop-at-test.true, c.len-at-end.ensures) in
    let is : get_or items at p ≡ p = sym c.index-plan.ensures in
    let here : slice_get items at ≡ Some p = slice_get-get_or items at p below ∙ ap (λ (q : Plan). Some q) is in
    let k_is : p.kind ≡ c.args.kind = search (rules, c.if-eq.ensures, c.kind.ensures) in
    let n_is : p.number ≡ c.args.number = omega (arith, c.if-number.true, c.number.ensures) in
    let rest : drop at items ≡ p ∷ drop (at + 1) items = drop_more items at p below ∙ ap (λ (q : Plan). q ∷ drop (at + 1) items) is in (
      p,
      ap (λ (l : List Plan). slice_get l at) (sym same) ∙ here,
      c.loop-at.invariant
          ∙ (ap (λ (l : List Plan). plan_of (drop at l) c.args.kind c.args.number) (sym same)
          ∙ (ap (λ (l : List Plan). plan_of l c.args.kind c.args.number) rest ∙ of_first p (drop (at + 1) items) c.args.kind c.args.number (is_of_own p c.args.kind c.args.number k_is n_is))),
    )
