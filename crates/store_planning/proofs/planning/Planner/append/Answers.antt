-- Bytes are added to the plan of the epoch, or to a new one.
use Rattle.std.proofs.Common.{◌≡◌, ◌∙◌, None, sym, ap, subst, refl}
use Rattle.std.proofs.lemmas.Result.{on_ok_weaker}
use Rattle.disk_model.specs.declared.name.FileKind.TheVariants as kind
use Rattle.root_change.specs.Rewriting.{Plan, plan_of, with_bytes}
use Rattle.store_planning.specs.Planning.{AreValid, Planning}
use Rattle.store_planning.proofs.Indexed.{epoch_more, epoch_set, planning_set, taken, valid_more, valid_set}
use Rattle.store_planning.proofs.planning.Planner.append.Goals as goal

pub invariant_of-self : goal.invariant_of-self
invariant_of-self c =
    let inside : Planning = record { plans = c.self.inside.plans.items; entries = c.self.inside.entries.items; gone = c.self.inside.gone; current = c.self.inside.current; form = c.self.inside.form } in
    let at = taken inside c.args.self.now kind.Epoch c.args.epoch c.in-Some.at c.index_mut.result.now c.self.view_is c.in-Some.ensures c.index_mut.ensures.value in
    planning_set c.self.inside.top c.in-Some.at inside c.index_mut.result.now c.push_bytes.new.self c.args.bytes.now c.push_bytes.result c.self.invariant at.0 c.push_bytes.ensures.ok c.push_bytes.ensures.valid c.push_bytes.ensures.err

pub returns-in-Some-clause-appended : goal.returns-in-Some-clause-appended
returns-in-Some-clause-appended c =
    let inside : Planning = record { plans = c.self.inside.plans.items; entries = c.self.inside.entries.items; gone = c.self.inside.gone; current = c.self.inside.current; form = c.self.inside.form } in
    let at = taken inside c.args.self.now kind.Epoch c.args.epoch c.in-Some.at c.index_mut.result.now c.self.view_is c.in-Some.ensures c.index_mut.ensures.value in
    on_ok_weaker c.push_bytes.result (λ more. epoch_set inside c.args.self.now c.args.epoch c.in-Some.at c.args.bytes.now c.index_mut.result.now c.push_bytes.new.self c.self.view_is c.self.invariant.apart at more) c.push_bytes.ensures.ok

pub returns-in-Some-clause-valid : goal.returns-in-Some-clause-valid
returns-in-Some-clause-valid c =
    let inside : Planning = record { plans = c.self.inside.plans.items; entries = c.self.inside.entries.items; gone = c.self.inside.gone; current = c.self.inside.current; form = c.self.inside.form } in
    on_ok_weaker c.push_bytes.result (λ one. valid_set inside c.args.self.now c.in-Some.at c.push_bytes.new.self c.self.view_is c.self.invariant.valid one) c.push_bytes.ensures.valid

pub returns-in_ok-push_bytes-in-None-clause-appended : goal.returns-in_ok-push_bytes-in-None-clause-appended
returns-in_ok-push_bytes-in-None-clause-appended c =
    let plan_is = c.in_ok-push_bytes-in-None.ensures.ok ∙ ap (λ (p : Plan). with_bytes p c.args.bytes.now) c.new-plan.ensures.plan in
    on_ok_weaker c.push.result (λ pushes. epoch_more c.args.self.now c.args.self.now c.push.new.self c.args.epoch c.args.bytes.now c.push_bytes-in-None.new.self refl c.in-None.ensures plan_is pushes) c.push.ensures

pub returns-in_ok-push_bytes-in-None-clause-valid : goal.returns-in_ok-push_bytes-in-None-clause-valid
returns-in_ok-push_bytes-in-None-clause-valid c =
    let valid = subst (λ (p : Planning). AreValid p.plans) c.self.view_is c.self.invariant.valid in
    on_ok_weaker c.push.result (λ pushes. valid_more c.args.self.now c.args.self.now c.push.new.self c.push_bytes-in-None.new.self refl valid c.in_ok-push_bytes-in-None.ensures.valid pushes) c.push.ensures

pub push-requires-clause-apart : goal.push-requires-clause-apart
push-requires-clause-apart c =
    let plan_is = c.in_ok-push_bytes-in-None.ensures.ok ∙ ap (λ (p : Plan). with_bytes p c.args.bytes.now) c.new-plan.ensures.plan in
    subst (λ (p : Plan). plan_of c.args.self.now.plans p.kind p.number ≡ None) (sym plan_is) c.in-None.ensures
