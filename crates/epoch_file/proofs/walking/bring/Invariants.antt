use Rattle.std.proofs.Common.{◌≡◌, ◌+◌, ◌-◌, ◌≤◌, length}
use Rattle.disk_model.specs.Disk.{WhereTold}
use Rattle.epoch_file.specs.Runs.{OnlyReads}
use Rattle.epoch_file.specs.Steps.{KeepsShown}
use Rattle.epoch_file.specs.Windows.{IsInsidePart}
use Rattle.epoch_file.proofs.walking.bring.Given as goal

abbrev pub invariant-loop-alloc : goal.invariant-loop-alloc
invariant-loop-alloc g l = record {
  keeps : WhereTold (KeepsShown l.part l.fn.window l.window) (g.D.Disk.content l.fn.disk);
  inside : IsInsidePart l.part l.window;
  room : 8 ≤ length l.piece;
  reads : OnlyReads g.D.Disk l.fn.disk l.disk;
  kept : g.D.Disk.faults l.disk ≡ g.D.Disk.faults l.fn.disk;
}

abbrev pub decreases-loop-alloc : goal.decreases-loop-alloc
decreases-loop-alloc g l = l.part.end - (l.part.offset + length l.window)
