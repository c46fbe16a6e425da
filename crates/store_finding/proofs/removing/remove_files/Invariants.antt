-- The files so far are gone.
use Rattle.std.specs.Prelude.{◌≡◌}
use Rattle.std.specs.List.{Contains}
use Rattle.disk_model.specs.declared.name.FileName.{FileName}
use Rattle.disk_model.specs.Beside.{Bounds, RespectsBound, RunsBeside}
use Rattle.disk_model.specs.Disk.{BothTold}
use Rattle.disk_model.specs.Moments.{LeavesOnly}
use Rattle.store_finding.specs.Removing.{Fewer}
use Rattle.store_finding.proofs.Removals.{GoneUpTo}
use Rattle.store_finding.proofs.removing.remove_files.Given as goal

abbrev pub invariant-loop-name : goal.invariant-loop-name
invariant-loop-name g l = record {
  told : BothTold (GoneUpTo l.names l.name-index) (g.D.Disk.content l.fn.disk) (g.D.Disk.content l.disk);
  crash_beside : (bounds : Bounds) → ((name : FileName) → Contains l.names name → RespectsBound (bounds name) 0) → RunsBeside g.D.Disk bounds l.fn.disk l.disk;
  moments : LeavesOnly g.D.Disk l.fn.disk l.disk (Fewer l.names (g.D.Disk.content l.fn.disk));
  kept : g.D.Disk.faults l.disk ≡ g.D.Disk.faults l.fn.disk;
  reads : g.D.Disk.reads l.disk ≡ g.D.Disk.reads l.fn.disk;
}
