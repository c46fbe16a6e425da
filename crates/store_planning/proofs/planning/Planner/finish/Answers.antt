-- The last epoch was closed, and the map is planned.
use Rattle.std.proofs.Common.{◌≡◌, None, ℕ, sym, subst, arith}
use Rattle.disk_model.specs.declared.name.FileKind.{FileKind}
use Rattle.disk_model.specs.declared.name.FileKind.TheVariants as kind
use Rattle.root_change.specs.Rewriting.{AreApart, plan_of}
use Rattle.store_planning.specs.Planning.{FinishesPlans, Planning}
use Rattle.store_planning.proofs.Apart.{last_map}
use Rattle.store_planning.proofs.Finishing.{finish_ready, map_planned_by, rises_higher}
use Rattle.store_planning.proofs.Taken.{finished_named, finished_within}
use Rattle.store_planning.proofs.planning.Planner.finish.Goals as goal

pub plan_without-requires : goal.plan_without-requires
plan_without-requires c = record { gone = rises_higher 1 c.self.inside.top c.args.count c.self.inside.gone (omega (arith, c.if-self-count.false)) c.self.invariant.gone }

pub returns-clause-finished : goal.returns-clause-finished
returns-clause-finished c =
    let mid = c.close_last.new.self in
    let inside : Planning = record { plans = c.self.inside.plans.items; entries = c.self.inside.entries.items; gone = c.self.inside.gone; current = c.self.inside.current; form = c.self.inside.form } in
    let of = map_planned_by c.args.self.now inside mid c.args.map c.args.count c.in_ok-plan.plan c.self.view_is c.in_ok-close_last.ensures c.in_ok-plan.ensures in
    (mid, c.in_ok-close_last.ensures, (c.in_ok-plan.plan, of, c.in_ok-push.ensures))

pub returns-clause-ready : goal.returns-clause-ready
returns-clause-ready c = λ root valid map_is long are taken.
    let old = c.args.self.now in
    let map = c.args.map in
    let count = c.args.count in
    let new = c.push.new.self in
    let inside : Planning = record { plans = c.self.inside.plans.items; entries = c.self.inside.entries.items; gone = c.self.inside.gone; current = c.self.inside.current; form = c.self.inside.form } in
    let of = map_planned_by old inside c.close_last.new.self map count c.in_ok-plan.plan c.self.view_is c.in_ok-close_last.ensures c.in_ok-plan.ensures in
    let finishes : FinishesPlans old map count new = (c.close_last.new.self, c.in_ok-close_last.ensures, (c.in_ok-plan.plan, of, c.in_ok-push.ensures)) in
    let so = finish_ready root old map count new finishes (subst (λ (p : Planning). AreApart p.plans) c.self.view_is c.self.invariant.apart) map_is are in
    (so.0, so.1, so.2 (finished_within root old map count new finishes map_is long are taken), finished_named root old map count new finishes map_is long are taken)

pub push-requires-clause-apart : goal.push-requires-clause-apart
push-requires-clause-apart c =
    let plan = c.in_ok-plan.plan in
    let mid = c.close_last.new.self in
    let none = last_map c.args.self.now c.args.self.now.current mid c.in_ok-close_last.ensures c.requires.map in
    subst (λ (k : FileKind). plan_of mid.plans k plan.number ≡ None) (sym c.in_ok-plan.ensures.kind) (subst (λ (n : ℕ). plan_of mid.plans kind.Map n ≡ None) (sym c.in_ok-plan.ensures.number) none)
