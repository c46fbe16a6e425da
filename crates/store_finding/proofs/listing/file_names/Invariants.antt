-- The names so far are the first ones.
use Rattle.std.specs.Prelude.{◌≡◌}
use Rattle.disk_model.specs.Disk.{Image, BothTold, Unchanged, WhereTold}
use Rattle.disk_model.specs.Moments.{LeavesOnly}
use Rattle.store_finding.proofs.NameLists.{AreFirstNames}
use Rattle.store_finding.proofs.listing.file_names.Given as goal

abbrev pub invariant-loop-index : goal.invariant-loop-index
invariant-loop-index g l = record {
  first : WhereTold (AreFirstNames l.names l.index) (g.D.Disk.content l.fn.disk);
  same : BothTold Unchanged (g.D.Disk.content l.fn.disk) (g.D.Disk.content l.disk);
  moments : LeavesOnly g.D.Disk l.fn.disk l.disk (Image (g.D.Disk.content l.fn.disk));
  kept : g.D.Disk.faults l.disk ≡ g.D.Disk.faults l.fn.disk;
  reads : g.D.Disk.reads l.disk ≡ g.D.Disk.reads l.fn.disk;
}
