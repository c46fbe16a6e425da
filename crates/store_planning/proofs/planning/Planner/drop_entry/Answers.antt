-- An entry was left out.
use Rattle.std.proofs.lemmas.Result.{on_ok_weaker}
use Rattle.store_planning.proofs.Losing.{left_changes}
use Rattle.store_planning.proofs.Taken.{left_on}
use Rattle.store_planning.proofs.Taking.{drops_stored, left_gone, left_in, left_same}
use Rattle.store_planning.proofs.planning.Planner.drop_entry.Goals as goal

pub returns-clause-dropped : goal.returns-clause-dropped
returns-clause-dropped c = on_ok_weaker c.leave_out.result (λ left. drops_stored c.args.self.now c.args.file c.args.entry.now c.open.new.self c.leave_out.new.self c.in_ok-plan.plan c.in_ok-plan.ensures.opened left) c.leave_out.ensures

pub returns-clause-same : goal.returns-clause-same
returns-clause-same c = on_ok_weaker c.leave_out.result (λ left. left_same c.args.self.now c.args.file c.args.entry.now c.open.new.self c.leave_out.new.self c.in_ok-plan.plan c.in_ok-plan.ensures.opened left) c.leave_out.ensures

pub returns-clause-gone : goal.returns-clause-gone
returns-clause-gone c = on_ok_weaker c.leave_out.result (λ left. left_gone c.args.self.now c.args.file c.args.entry.now c.open.new.self c.leave_out.new.self c.in_ok-plan.plan c.in_ok-plan.ensures.opened left) c.leave_out.ensures

pub returns-clause-plans : goal.returns-clause-plans
returns-clause-plans c = λ root file_is are.
    on_ok_weaker c.leave_out.result (λ left. left_in root c.args.self.now c.args.file c.args.entry.now c.open.new.self c.leave_out.new.self c.in_ok-plan.plan are c.in_ok-plan.ensures.opened file_is c.requires.epoch left) c.leave_out.ensures

pub returns-clause-changes : goal.returns-clause-changes
returns-clause-changes c = on_ok_weaker c.leave_out.result (λ left. left_changes c.args.self.now c.args.file c.args.entry.now c.open.new.self c.leave_out.new.self c.in_ok-plan.plan c.in_ok-plan.ensures.opened left) c.leave_out.ensures

pub returns-clause-lies : goal.returns-clause-lies
returns-clause-lies c = on_ok_weaker c.leave_out.result (λ left. left_on c.args.self.now c.args.file c.args.entry.now c.open.new.self c.leave_out.new.self c.in_ok-plan.plan c.in_ok-plan.ensures.opened left) c.leave_out.ensures
