use Rattle.std.proofs.Common.{◌≡◌, ◌-◌, ◌≤◌, length}
use Rattle.disk_model.specs.Disk.{Image, BothTold, WhereTold, Unchanged, bytes_of}
use Rattle.disk_model.specs.Moments.{LeavesOnly}
use Rattle.number_map.specs.Records.{AreRecordsFrom}
use Rattle.number_map.specs.Walks.{BeginsWithRecords}
use Rattle.number_map.proofs.whole.read_all.Given as goal

abbrev pub invariant-loop-done : goal.invariant-loop-done
invariant-loop-done g l = record {
  size : length l.lines ≡ l.done;
  bound : l.done ≤ l.count;
  valid : AreRecordsFrom l.form 1 l.lines;
  begins : WhereTold (λ k. BeginsWithRecords l.form l.lines (bytes_of (k l.file).seen)) (g.D.Disk.content l.disk);
  same : BothTold Unchanged (g.D.Disk.content l.fn.disk) (g.D.Disk.content l.disk);
  moments : LeavesOnly g.D.Disk l.fn.disk l.disk (Image (g.D.Disk.content l.fn.disk));
  kept : g.D.Disk.faults l.disk ≡ g.D.Disk.faults l.fn.disk;
}

abbrev pub decreases-loop-done : goal.decreases-loop-done
decreases-loop-done g l = l.count - l.done
