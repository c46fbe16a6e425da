-- The plans are carried out beside the old root's texts, and the root is replaced.
use Rattle.std.specs.Prelude.{Some}
use Rattle.std.proofs.Common.{arith}
use Rattle.root_slots.specs.Slots.{slot_number, slot_below}
use Rattle.root_slots.specs.Spelling.{spelling}
use Rattle.root_change.proofs.Carrying.{later_fault, no_fault, not_short, writing_failed, replacing_failed, planned_leaves, planned_done, planned_rooted, planned_root}
use Rattle.root_change.proofs.Phases.{kept_sizes}
use Rattle.root_change.proofs.Rewritten.{may_write_all, long_told}
use Rattle.root_change.proofs.rewriting.rewrite.Goals as goal

pub write_plans-requires-clause-files : goal.write_plans-requires-clause-files
write_plans-requires-clause-files g c =
    may_write_all c.args.old.now c.root_after-new.result c.args.plans.now c.args.number c.args.form c.requires.root c.root_fits.ensures c.requires.plans c.root_after-new.ensures.root

pub returns-in_err-write_plans : goal.returns-in_err-write_plans
returns-in_err-write_plans g c =
    record {
      carried = writing_failed g.D.Disk c.args.disk.now c.write_plans.new.disk c.args.old.now (slot_number c.args.slot) c.args.plans.now c.args.number c.args.form c.root_after-new.result c.root_after-new.ensures.root c.from_residual.result c.in_err-write_plans.field-0.0 c.from_residual.ensures.1 c.write_plans.ensures.crash_beside c.in_err-write_plans.ensures.whole c.in_err-write_plans.ensures.short c.in_err-write_plans.ensures.cause;
      fewest = c.write_plans.ensures.fewest;
    }

pub returns-in_err-replace_root : goal.returns-in_err-replace_root
returns-in_err-replace_root g c =
    let old = c.args.old.now in
    let new = c.root_after-new.result in
    let plans = c.args.plans.now in
    let free = slot_number c.args.slot in
    let disk = c.args.disk.now in
    let d1 = c.write_plans.new.disk in
    let d2 = c.replace_root.new.disk in
    let faults = g.D.Disk.faults in
    record {
      carried = replacing_failed g.D.Disk disk d2 old free plans c.args.number c.args.form new c.root_after-new.ensures.root c.from_residual-in_err-replace_root.result c.from_residual-in_err-replace_root.ensures.1
          (λ parts own. planned_leaves old new plans c.args.number c.args.form c.requires.root c.root_fits.ensures c.requires.plans c.root_after-new.ensures.root c.root_after-new.ensures.valid c.root_fits-2.ensures free g.D.Disk disk d1 d2 c.write_plans.ensures.crash_beside c.in_ok-write_plans.ensures.written parts own c.replace_root.ensures.crash)
          (later_fault (faults disk) (faults d1) (faults d2) _ (c.in_ok-write_plans.ensures.cause.kept (λ failed. failed)) c.in_err-replace_root.ensures.cause)
          (planned_root g.D.Disk old free (Some (spelling new)) disk d1 d2 (slot_below c.args.slot) c.write_plans.ensures.crash_beside c.replace_root.ensures.crash_root);
      fewest = omega (arith, c.write_plans.ensures.fewest, c.replace_root.ensures.count);
    }

pub returns : goal.returns
returns g c =
    let old = c.args.old.now in
    let new = c.root_after-new.result in
    let plans = c.args.plans.now in
    let number = c.args.number in
    let form = c.args.form in
    let free = slot_number c.args.slot in
    let disk = c.args.disk.now in
    let d1 = c.write_plans.new.disk in
    let d2 = c.replace_root.new.disk in
    let content = g.D.Disk.content in
    let faults = g.D.Disk.faults in
    let valid = c.requires.root in
    let fits = c.root_fits.ensures in
    let may = c.requires.plans in
    let after = c.root_after-new.ensures.root in
    let wrote = c.in_ok-write_plans.ensures.written in
    record {
      carried = record {
        crash = λ parts own. planned_leaves old new plans number form valid fits may after c.root_after-new.ensures.valid c.root_fits-2.ensures free g.D.Disk disk d1 d2 c.write_plans.ensures.crash_beside wrote parts own c.replace_root.ensures.crash;
        done = λ parts own. planned_done old new plans number form valid fits may after c.root_after-new.ensures.valid c.root_fits-2.ensures free g.D.Disk disk d1 d2 c.write_plans.ensures.crash_beside wrote parts own c.in_ok-replace_root.ensures.done;
        whole = not_short (content disk);
        short = tt;
        settled = c.in_ok-replace_root.ensures.settled;
        root_is = after;
        valid = c.root_after-new.ensures.valid;
        sizes = kept_sizes new (content d1) (content d2) (long_told old new plans number form valid fits may after (content disk) (content d1) c.requires.sizes wrote) c.in_ok-replace_root.ensures.kept;
        crash_beside = λ short. absurd short;
        cause = no_fault (faults disk) (faults d1) (faults d2) _ (c.in_ok-write_plans.ensures.cause.kept (λ failed. failed)) c.in_ok-replace_root.ensures.cause;
        rooted = planned_rooted old new plans free (spelling new) (content disk) (content d1) (content d2) may wrote c.in_ok-replace_root.ensures.rooted;
        crash_root = (new, after, planned_root g.D.Disk old free (Some (spelling new)) disk d1 d2 (slot_below c.args.slot) c.write_plans.ensures.crash_beside c.replace_root.ensures.crash_root);
      };
      fewest = omega (arith, c.write_plans.ensures.fewest, c.replace_root.ensures.count);
    }
