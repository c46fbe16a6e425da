-- The bytes so far are copied.
use Rattle.std.specs.Prelude.{◌≡◌, ◌+◌, ◌-◌, ◌≤◌}
use Rattle.disk_model.specs.Beside.{Bounds, RespectsBound, RunsBeside}
use Rattle.disk_model.specs.Disk.{BothTold, WhereTold, IsAtMostLength}
use Rattle.root_change.specs.Copying.{Copied, OtherFilesStay}
use Rattle.root_change.proofs.copying.copy_range.Given as goal

abbrev pub invariant-loop-done : goal.invariant-loop-done
invariant-loop-done g l = record {
  bound : l.done ≤ l.range.count;
  crash_beside : (bounds : Bounds) → RespectsBound (bounds l.to) l.end → RunsBeside g.D.Disk bounds l.fn.disk l.disk;
  copied : BothTold (Copied l.range.file l.range.offset l.done l.to l.end) (g.D.Disk.content l.fn.disk) (g.D.Disk.content l.disk);
  inside : WhereTold (IsAtMostLength l.to (l.end + l.done)) (g.D.Disk.content l.disk);
  others : BothTold (OtherFilesStay l.to) (g.D.Disk.content l.fn.disk) (g.D.Disk.content l.disk);
  fewest : g.D.Disk.reads l.fn.disk ≤ g.D.Disk.reads l.disk;
  kept : g.D.Disk.faults l.disk ≡ g.D.Disk.faults l.fn.disk;
}

abbrev pub decreases-loop-done : goal.decreases-loop-done
decreases-loop-done g l = l.range.count - l.done
