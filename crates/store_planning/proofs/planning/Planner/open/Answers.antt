-- The current epoch isn't planned yet, and the plan of another file is a new one.
use Rattle.std.proofs.Common.{◌≡◌, ◌≢◌, ◌∙◌, Option, ap, rules, subst}
use Rattle.epoch_file.specs.Planning.{Planned}
use Rattle.store_planning.specs.Planning.{ClosesEpoch, Planning, epoch_start, without_current}
use Rattle.store_planning.proofs.Apart.{current_apart}
use Rattle.store_planning.proofs.Taking.{opened_other}
use Rattle.store_planning.proofs.planning.Planner.open.Goals as goal

pub close-requires : goal.close-requires
close-requires c =
    let inside : Planning = record { plans = c.self.inside.plans.items; entries = c.self.inside.entries.items; gone = c.self.inside.gone; current = c.self.inside.current; form = c.self.inside.form } in
    current_apart inside c.args.self.now c.in-Some.plan c.self.view_is (search rules) c.requires

pub returns-clause-opened : goal.returns-clause-opened
returns-clause-opened c =
    let inside : Planning = record { plans = c.self.inside.plans.items; entries = c.self.inside.entries.items; gone = c.self.inside.gone; current = c.self.inside.current; form = c.self.inside.form } in
    let mid = c.close.new.self in
    let apart : c.in-Some.plan.file ≢ c.args.file = search rules in
    let start : c.new-2.result ≡ epoch_start mid.form c.args.file = c.new-2.ensures ∙ ap (λ (p : Planning). epoch_start p.form c.args.file) c.self-2.view_is in
    let closes : ClosesEpoch (without_current inside) c.in-Some.plan mid =
    subst (λ (o : Option Planned). ClosesEpoch (record { plans = inside.plans; entries = inside.entries; gone = inside.gone; current = o; form = inside.form }) c.in-Some.plan mid) c.take.ensures.after c.in_ok-close.ensures in
    opened_other inside c.args.self.now mid c.args.file c.in-Some.plan c.new-2.result c.self.view_is (search rules) apart closes start
