-- One more plan, of a part that had none.
use Rattle.std.proofs.Common.{◌≡◌, ◌∙◌, List, [], ◌∷◌, ◌++◌, None, sym, ap, subst}
use Rattle.root_change.specs.Rewriting.{AreApart, IsPlan, Plan, plan_of}
use Rattle.root_change.proofs.PlanParts.{apart_more}
use Rattle.store_planning.specs.Planning.{AreValid, Planning}
use Rattle.store_planning.proofs.Planned.{each_plan}
use Rattle.store_planning.proofs.planning.Planner.push.Goals as goal

pub invariant_of-self-2 : goal.invariant_of-self-2
invariant_of-self-2 c =
    let plans = c.self.inside.plans.items in
    let plan = c.args.plan in
    let same : plans ≡ c.args.self.now.plans = ap (λ (p : Planning). p.plans) c.self.view_is in
    let none : plan_of plans plan.kind plan.number ≡ None =
    ap (λ (l : List Plan). plan_of l plan.kind plan.number) same ∙ c.requires.apart in
    let all : c.push.new.self.items ≡ plans ++ plan ∷ [] = c.in-Ok.ensures.items in
    record {
      apart = subst AreApart (sym all) (apart_more plans plan c.self.invariant.apart none);
      valid = subst AreValid (sym all) (each_plan IsPlan plans plan c.self.invariant.valid c.requires.valid);
      gone = c.self.invariant.gone;
      form = c.self.invariant.form;
    }
