-- One more plan.
use Rattle.std.proofs.Common.{length, refl, subst, arith}
use Rattle.std.proofs.lemmas.Option.{slice_get_read}
use Rattle.disk_model.specs.declared.name.FileName.{FileName}
use Rattle.disk_model.specs.Disk.{BothTold}
use Rattle.disk_model.specs.BesideLaws.{run_started, run_joined}
use Rattle.root_change.specs.Names.{bounds_of}
use Rattle.root_change.specs.Rewriting.{IsPartOfPlan, IsPlannedPart, IsShort}
use Rattle.root_change.specs.Writing.{WritesAlone}
use Rattle.root_change.proofs.Written.{file_of_part, first_written, next_written, never_short, same_refusal, short_handed}
use Rattle.root_change.proofs.rewriting.write_plans.Goals as goal

pub loop-plan-init : goal.loop-plan-init
loop-plan-init g c =
    let disk = c.args.disk.now in
    let content = g.D.Disk.content in
    record {
      crash_beside = run_started g.D.Disk (bounds_of c.args.old.now) disk (g.met.D.Disk.only_now disk);
      written = first_written c.args.old.now c.args.new.now c.args.plans.now c.requires.plans (content disk);
      sizes = c.requires.sizes;
      fewest = omega arith;
      kept = refl;
    }

pub returns-in_err-write_plan-clause-crash_beside : goal.returns-in_err-write_plan-clause-crash_beside
returns-in_err-write_plan-clause-crash_beside g c =
    run_joined g.D.Disk (bounds_of c.args.old.now) c.args.disk.now c.loop-plan.disk c.write_plan.new.disk c.loop-plan.invariant.crash_beside c.write_plan.ensures.crash_beside

pub returns-in_err-write_plan-clause-whole : goal.returns-in_err-write_plan-clause-whole
returns-in_err-write_plan-clause-whole g c =
    let plans = c.args.plans.now in
    let i = c.loop-plan.plan-index in
    never_short c.args.old.now c.args.new.now plans c.requires.plans i c.plan-item.result (slice_get_read plans (length plans) i c.plan-item.result refl c.loop-plan-test.true c.plan-item.is) (g.D.Disk.content c.args.disk.now) (g.D.Disk.content c.loop-plan.disk) (IsShort c.from_residual.result) c.loop-plan.invariant.written c.loop-plan.invariant.sizes
    (λ has short. c.in_err-write_plan.ensures.whole has (same_refusal c.from_residual.result c.in_err-write_plan.field-0.0 c.from_residual.ensures.1 short))

pub returns-in_err-write_plan-clause-short : goal.returns-in_err-write_plan-clause-short
returns-in_err-write_plan-clause-short g c =
    let old = c.args.old.now in
    let plans = c.args.plans.now in
    let i = c.loop-plan.plan-index in
    let plan = c.plan-item.result in
    short_handed (IsPartOfPlan old plan) (IsPlannedPart old plans) c.from_residual.result c.in_err-write_plan.field-0.0
    (λ file at part. record { index = i; plan = plan; there = slice_get_read plans (length plans) i plan refl c.loop-plan-test.true c.plan-item.is; part = part })
    c.from_residual.ensures.1 c.in_err-write_plan.ensures.short

pub loop-plan-preserved : goal.loop-plan-preserved
loop-plan-preserved g c =
    let before = c.loop-plan.invariant in
    let content = g.D.Disk.content in
    let old = c.args.old.now in
    let new = c.args.new.now in
    let plans = c.args.plans.now in
    let plan = c.plan-item.result in
    let i = c.loop-plan.plan-index in
    let m = content c.loop-plan.disk in
    let o = content c.write_plan.new.disk in
    let to_is = file_of_part new plan.kind c.kind.result plan.number c.number.result c.file_of-to.result c.file_of-to.ensures c.kind.ensures c.number.ensures in
    let one = subst (λ (to : FileName). BothTold (WritesAlone old plan to) m o) to_is c.in_ok-write_plan.ensures.written in
    record {
      crash_beside = run_joined g.D.Disk (bounds_of old) c.args.disk.now c.loop-plan.disk c.write_plan.new.disk before.crash_beside c.write_plan.ensures.crash_beside;
      written = next_written old new plans c.requires.plans i plan (slice_get_read plans (length plans) i plan refl c.loop-plan-test.true c.plan-item.is) (content c.args.disk.now) m o before.written one;
      sizes = c.in_ok-write_plan.ensures.sizes;
      fewest = omega (arith, before.fewest, c.write_plan.ensures.fewest);
      kept = omega (arith, before.kept, c.in_ok-write_plan.ensures.cause.kept (λ failed. failed));
    }
