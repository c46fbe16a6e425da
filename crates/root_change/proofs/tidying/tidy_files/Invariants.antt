-- The files so far are tidied.
use Rattle.std.specs.Prelude.{◌≡◌}
use Rattle.disk_model.specs.Disk.{BothTold}
use Rattle.disk_model.specs.Beside.{RunsBeside}
use Rattle.root_change.specs.Names.{bounds_of}
use Rattle.root_change.specs.Tidying.{Tidied}
use Rattle.root_change.proofs.Tidies.{IsAmong}
use Rattle.root_change.proofs.tidying.tidy_files.Given as goal

abbrev pub invariant-loop-name : goal.invariant-loop-name
invariant-loop-name g l = record {
  crash_beside : RunsBeside g.D.Disk (bounds_of l.root) l.fn.disk l.disk;
  tidied : BothTold (Tidied (IsAmong l.names l.name-index) l.root) (g.D.Disk.content l.fn.disk) (g.D.Disk.content l.disk);
  kept : g.D.Disk.faults l.disk ≡ g.D.Disk.faults l.fn.disk;
  reads : g.D.Disk.reads l.disk ≡ g.D.Disk.reads l.fn.disk;
}
