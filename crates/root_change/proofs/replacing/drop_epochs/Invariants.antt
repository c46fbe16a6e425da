-- The files of the epochs so far are dropped.
use Rattle.std.specs.Prelude.{◌≡◌}
use Rattle.disk_model.specs.Disk.{BothTold}
use Rattle.disk_model.specs.Beside.{RunsBeside}
use Rattle.root_change.specs.Names.{bounds_of}
use Rattle.root_change.specs.Replacing.{Dropped, IsEpochBelow}
use Rattle.root_change.proofs.replacing.drop_epochs.Given as goal

abbrev pub invariant-loop-epoch : goal.invariant-loop-epoch
invariant-loop-epoch g l = record {
  crash_beside : RunsBeside g.D.Disk (bounds_of l.new) l.fn.disk l.disk;
  dropped : BothTold (Dropped (IsEpochBelow l.epoch) l.old l.new) (g.D.Disk.content l.fn.disk) (g.D.Disk.content l.disk);
  kept : g.D.Disk.faults l.disk ≡ g.D.Disk.faults l.fn.disk;
  reads : g.D.Disk.reads l.disk ≡ g.D.Disk.reads l.fn.disk;
}
