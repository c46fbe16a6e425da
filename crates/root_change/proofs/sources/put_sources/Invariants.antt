-- The sources so far are put.
use Rattle.std.specs.Prelude.{◌≡◌, ◌+◌, ◌≤◌, take}
use Rattle.std.specs.List.{sum_by}
use Rattle.disk_model.specs.Beside.{Bounds, RespectsBound, RunsBeside}
use Rattle.disk_model.specs.Disk.{BothTold, WhereTold, IsAtMostLength}
use Rattle.root_change.specs.Copying.{OtherFilesStay}
use Rattle.root_change.specs.Gathering.{source_count, PutSources}
use Rattle.root_change.proofs.sources.put_sources.Given as goal

abbrev pub invariant-loop-source : goal.invariant-loop-source
invariant-loop-source g l = record {
  next_is : l.next ≡ l.end + sum_by source_count (take l.source-index l.sources);
  crash_beside : (bounds : Bounds) → RespectsBound (bounds l.to) l.end → RunsBeside g.D.Disk bounds l.fn.disk l.disk;
  put : BothTold (PutSources l.bytes (take l.source-index l.sources) l.to l.end) (g.D.Disk.content l.fn.disk) (g.D.Disk.content l.disk);
  inside : WhereTold (IsAtMostLength l.to l.next) (g.D.Disk.content l.disk);
  others : BothTold (OtherFilesStay l.to) (g.D.Disk.content l.fn.disk) (g.D.Disk.content l.disk);
  fewest : g.D.Disk.reads l.fn.disk ≤ g.D.Disk.reads l.disk;
  kept : g.D.Disk.faults l.disk ≡ g.D.Disk.faults l.fn.disk;
}
