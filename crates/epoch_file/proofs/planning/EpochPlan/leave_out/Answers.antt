-- The first entry that is left out begins a plan.
use Rattle.std.proofs.Common.{◌≡◌, ◌∙◌, Some, ap, refl, false, is_some, rules, subst}
use Rattle.root_change.specs.Rewriting.{Plan, with_range}
use Rattle.epoch_file.specs.Planning.{LeftOutIn, LeavesNext, Planned}
use Rattle.epoch_file.proofs.Lying.{leaves_first_in}
use Rattle.epoch_file.proofs.Planned.{first_plan, leaves_first, not_some}
use Rattle.epoch_file.proofs.planning.EpochPlan.leave_out.Goals as goal

pub returns-clause-left : goal.returns-clause-left
returns-clause-left c =
    let inside = c.self.inside in
    let seen = c.args.seen.now in
    let was : Planned = record { file = inside.file; changed = inside.changed; end_ = inside.end; parent = inside.parent; form = inside.form } in
    let isnt : is_some inside.changed ≡ false = search rules in
    let made : c.push_range.new.self ≡ first_plan inside.file seen.at = c.in_ok-push_range.ensures.ok ∙ ap (λ (p : Plan). with_range p inside.file 0 seen.at) c.new-plan.ensures.plan in
    let now : Planned = record { file = inside.file; changed = Some c.push_range.new.self; end_ = seen.at; parent = inside.parent; form = inside.form } in
    subst (λ (p : Planned). LeavesNext p seen now) c.self.view_is
    (leaves_first was now seen (not_some inside.changed isnt) (ap (λ (p : Plan). record { file = inside.file; changed = Some p; end_ = seen.at; parent = inside.parent; form = inside.form }) made))

pub returns-clause-lies : goal.returns-clause-lies
returns-clause-lies c = λ from most lies in_.
    let inside = c.self.inside in
    let seen = c.args.seen.now in
    let was : Planned = record { file = inside.file; changed = inside.changed; end_ = inside.end; parent = inside.parent; form = inside.form } in
    let isnt : is_some inside.changed ≡ false = search rules in
    let made : c.push_range.new.self ≡ first_plan inside.file seen.at = c.in_ok-push_range.ensures.ok ∙ ap (λ (p : Plan). with_range p inside.file 0 seen.at) c.new-plan.ensures.plan in
    let now : Planned = record { file = inside.file; changed = Some c.push_range.new.self; end_ = seen.at; parent = inside.parent; form = inside.form } in
    subst (λ (p : Planned). LeftOutIn from most p seen now) c.self.view_is (leaves_first_in from most was now seen (not_some inside.changed isnt) (ap Some made) refl refl lies)
