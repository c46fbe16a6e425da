-- The entries so far are planned.
use Rattle.std.specs.Prelude.{◌≡◌, ◌≤◌}
use Rattle.disk_model.specs.Disk.{WhereTold}
use Rattle.epoch_file.specs.Runs.{OnlyReads}
use Rattle.convert_planning.proofs.Kept.{ConvertsFront, HasTakenTo}
use Rattle.convert_planning.proofs.whole.take_all.Given as goal

abbrev pub invariant-loop-entry : goal.invariant-loop-entry
invariant-loop-entry g l = record {
  taken : HasTakenTo l.root l.fn.planned.form l.entries l.entry-index l.planned;
  first : WhereTold (ConvertsFront l.root l.fn.planned.form l.entries l.entry-index l.planned) (g.D.Disk.content l.fn.disk);
  form : l.planned.form ≡ l.fn.planned.form;
  reads : OnlyReads g.D.Disk l.fn.disk l.disk;
  steady : g.D.Disk.faults l.disk ≡ g.D.Disk.faults l.fn.disk;
  fewest : g.D.Disk.reads l.fn.disk ≤ g.D.Disk.reads l.disk;
}
