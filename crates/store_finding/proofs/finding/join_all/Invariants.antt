-- The epochs so far are read.
use Rattle.std.specs.Prelude.{◌≡◌, List}
use Rattle.disk_model.specs.Disk.{WhereTold}
use Rattle.epoch_file.specs.Runs.{OnlyReads}
use Rattle.number_map.specs.declared.line.Record.{Record}
use Rattle.root_slots.specs.Valid.{RootFits}
use Rattle.store_finding.specs.Extents.{AreNamed}
use Rattle.store_finding.specs.Files.{as_read}
use Rattle.store_finding.specs.Joined.{AreBefore}
use Rattle.store_finding.specs.Openings.{IsReadUpTo}
use Rattle.store_finding.specs.StoredIds.{AreOfForm}
use Rattle.store_finding.proofs.finding.join_all.Given as goal

abbrev pub invariant-loop-epoch : goal.invariant-loop-epoch
invariant-loop-epoch g l = record {
  before : AreBefore l.epoch l.joining.entries;
  named : AreNamed l.root l.fn.joining.entries → AreNamed l.root l.joining.entries;
  ids : AreOfForm l.root.config.form l.fn.joining.entries → AreOfForm l.root.config.form l.joining.entries;
  up : WhereTold (λ k. (rs : List Record) → RootFits l.root → IsReadUpTo l.root (as_read k) rs 0 l.fn.joining → IsReadUpTo l.root (as_read k) rs l.epoch l.joining) (g.D.Disk.content l.fn.disk);
  reads : OnlyReads g.D.Disk l.fn.disk l.disk;
  kept : g.D.Disk.faults l.disk ≡ g.D.Disk.faults l.fn.disk;
}
