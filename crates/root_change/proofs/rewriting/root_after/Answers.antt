-- One more plan.
use Rattle.std.proofs.Common.{List, length, refl, subst, arith, take_all}
use Rattle.std.proofs.lemmas.Option.{slice_get_read}
use Rattle.root_change.specs.Rewriting.{Plan, IsRootAfter}
use Rattle.root_change.proofs.Placing.{start_after, next_after, next_room, after_is_root}
use Rattle.root_change.proofs.rewriting.root_after.Goals as goal

pub loop-plan-init : goal.loop-plan-init
loop-plan-init c = record { after = start_after c.args.old.now c.args.number c.args.form c.copy-new.result c.copy-new.ensures c.root_fits.ensures.count }

pub set_place-requires-clause-room : goal.set_place-requires-clause-room
set_place-requires-clause-room c =
    next_room c.args.old.now c.args.number c.args.form c.args.plans.now c.requires.plans c.loop-plan.plan-index c.plan-item.result (slice_get_read c.args.plans.now (length c.args.plans.now) c.loop-plan.plan-index c.plan-item.result refl c.loop-plan-test.true c.plan-item.is) c.loop-plan.new c.loop-plan.invariant.after

pub loop-plan-preserved : goal.loop-plan-preserved
loop-plan-preserved c = record {
  after = next_after c.args.old.now c.args.number c.args.form c.args.plans.now c.requires.plans c.loop-plan.plan-index c.plan-item.result (slice_get_read c.args.plans.now (length c.args.plans.now) c.loop-plan.plan-index c.plan-item.result refl c.loop-plan-test.true c.plan-item.is) c.loop-plan.new c.loop-plan.invariant.after c.set_place.new.root c.set_place.ensures;
}

pub returns-clause-valid : goal.returns-clause-valid
returns-clause-valid c =
    after_is_root c.args.old.now c.args.plans.now c.args.number c.args.form c.loop-plan.new c.requires.root c.root_fits.ensures c.requires.number.0 c.requires.number.1 c.requires.map
    (subst (λ (ps : List Plan). IsRootAfter c.args.old.now ps c.args.number c.args.form c.loop-plan.new) (take_all c.loop-plan.plan-index c.args.plans.now (omega arith)) c.loop-plan.invariant.after)
