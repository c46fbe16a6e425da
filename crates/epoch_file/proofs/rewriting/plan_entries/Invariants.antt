-- The entries so far are planned.
use Rattle.std.proofs.Common.{◌≡◌}
use Rattle.disk_model.specs.Disk.{Image, BothTold, Unchanged, WhereTold}
use Rattle.disk_model.specs.Moments.{LeavesOnly}
use Rattle.epoch_file.proofs.Rewritten.{PlannedTo}
use Rattle.epoch_file.proofs.rewriting.plan_entries.Given as goal

abbrev pub invariant-loop-entry : goal.invariant-loop-entry
invariant-loop-entry g l = record {
  count : l.index ≡ l.entry-index;
  file : l.plan.file ≡ l.fn.from;
  form : l.plan.form ≡ l.fn.form;
  planned : WhereTold (PlannedTo l.fn.form l.fn.from l.seen l.gone l.entry-index l.plan) (g.D.Disk.content l.disk);
  same : BothTold Unchanged (g.D.Disk.content l.fn.disk) (g.D.Disk.content l.disk);
  moments : LeavesOnly g.D.Disk l.fn.disk l.disk (Image (g.D.Disk.content l.fn.disk));
  kept : g.D.Disk.faults l.disk ≡ g.D.Disk.faults l.fn.disk;
}
