-- One more epoch.
use Rattle.std.specs.Prelude.{refl}
use Rattle.std.proofs.Common.{◌∙◌, ap, subst, arith}
use Rattle.disk_model.specs.declared.name.FileName.{FileName}
use Rattle.disk_model.specs.Disk.{BothTold}
use Rattle.root_slots.specs.declared.root.Place.{Place}
use Rattle.disk_model.specs.BesideLaws.{run_started, run_joined}
use Rattle.root_change.specs.Names.{epoch_name, bounds_of}
use Rattle.root_change.specs.Replacing.{Dropped, IsOne}
use Rattle.root_change.proofs.Drops.{none_dropped, epoch_dropped}
use Rattle.root_change.proofs.replacing.drop_epochs.Goals as goal

pub loop-epoch-init : goal.loop-epoch-init
loop-epoch-init g c =
    let disk = c.args.disk.now in
    record {
      crash_beside = run_started g.D.Disk (bounds_of c.args.new.now) disk (g.met.D.Disk.only_now disk);
      dropped = none_dropped c.args.old.now c.args.new.now (g.D.Disk.content disk);
      kept = refl;
      reads = refl;
    }

pub returns-in_err-drop_file-clause-crash_beside : goal.returns-in_err-drop_file-clause-crash_beside
returns-in_err-drop_file-clause-crash_beside g c =
    run_joined g.D.Disk (bounds_of c.args.new.now) c.args.disk.now c.loop-epoch.disk c.drop_file.new.disk c.loop-epoch.invariant.crash_beside c.drop_file.ensures.crash_beside

pub loop-epoch-preserved : goal.loop-epoch-preserved
loop-epoch-preserved g c =
    let before = c.loop-epoch.invariant in
    let old = c.args.old.now in
    let new = c.args.new.now in
    let content = g.D.Disk.content in
    let name_is = c.epoch_file.ensures ∙ ap (λ (p : Place). epoch_name c.loop-epoch.epoch p.generation) c.epoch_place-place.ensures in
    let one = subst (λ (n : FileName). BothTold (Dropped (IsOne n) old new) (content c.loop-epoch.disk) (content c.drop_file.new.disk)) name_is c.in_ok-drop_file.ensures.dropped in
    record {
      crash_beside = run_joined g.D.Disk (bounds_of c.args.new.now) c.args.disk.now c.loop-epoch.disk c.drop_file.new.disk before.crash_beside c.drop_file.ensures.crash_beside;
      dropped = epoch_dropped old new c.loop-epoch.epoch (content c.args.disk.now) (content c.loop-epoch.disk) (content c.drop_file.new.disk) before.dropped one;
      kept = omega (arith, before.kept, c.in_ok-drop_file.ensures.cause.kept);
      reads = omega (arith, before.reads, c.drop_file.ensures.count);
    }
