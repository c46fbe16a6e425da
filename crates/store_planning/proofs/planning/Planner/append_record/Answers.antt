-- A record is added to the plan of the map.
use Rattle.std.proofs.lemmas.Result.{on_ok_weaker}
use Rattle.disk_model.specs.declared.name.FileKind.TheVariants as kind
use Rattle.number_map.specs.Records.{record_bytes}
use Rattle.store_planning.specs.Planning.{Planning}
use Rattle.store_planning.proofs.Indexed.{map_set, planning_set, taken, valid_set}
use Rattle.store_planning.proofs.planning.Planner.append_record.Goals as goal

pub invariant_of-self : goal.invariant_of-self
invariant_of-self c =
    let inside : Planning = record { plans = c.self.inside.plans.items; entries = c.self.inside.entries.items; gone = c.self.inside.gone; current = c.self.inside.current; form = c.self.inside.form } in
    let at = taken inside c.args.self.now kind.Map 0 c.in-Some.at c.index_mut.result.now c.self.view_is c.in-Some.ensures c.index_mut.ensures.value in
    planning_set c.self.inside.top c.in-Some.at inside c.index_mut.result.now c.push_record.new.plan (record_bytes c.args.line.now) c.push_record.result c.self.invariant at.0 c.push_record.ensures.ok c.push_record.ensures.valid c.push_record.ensures.err

pub returns-clause-appended : goal.returns-clause-appended
returns-clause-appended c =
    let inside : Planning = record { plans = c.self.inside.plans.items; entries = c.self.inside.entries.items; gone = c.self.inside.gone; current = c.self.inside.current; form = c.self.inside.form } in
    let at = taken inside c.args.self.now kind.Map 0 c.in-Some.at c.index_mut.result.now c.self.view_is c.in-Some.ensures c.index_mut.ensures.value in
    on_ok_weaker c.push_record.result (λ more. map_set inside c.args.self.now c.in-Some.at (record_bytes c.args.line.now) c.index_mut.result.now c.push_record.new.plan c.self.view_is c.self.invariant.apart at more) c.push_record.ensures.ok

pub returns-clause-valid : goal.returns-clause-valid
returns-clause-valid c =
    let inside : Planning = record { plans = c.self.inside.plans.items; entries = c.self.inside.entries.items; gone = c.self.inside.gone; current = c.self.inside.current; form = c.self.inside.form } in
    on_ok_weaker c.push_record.result (λ one. valid_set inside c.args.self.now c.in-Some.at c.push_record.new.plan c.self.view_is c.self.invariant.valid one) c.push_record.ensures.valid
