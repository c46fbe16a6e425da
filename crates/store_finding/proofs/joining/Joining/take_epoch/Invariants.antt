-- The entries so far are joined.
use Rattle.std.specs.Prelude.{◌≡◌, ◌+◌, ℕ, length}
use Rattle.std.specs.Vec.Iter.{into_iter_items, into_iter_len}
use Rattle.disk_model.specs.Disk.{WhereTold}
use Rattle.epoch_file.specs.Forms.{HaveIdsOf}
use Rattle.epoch_file.specs.Lying.{LieIn}
use Rattle.epoch_file.specs.Runs.{OnlyReads}
use Rattle.store_finding.specs.Damage.{named_length}
use Rattle.store_finding.specs.Extents.{AreNamed}
use Rattle.store_finding.specs.Files.{as_read}
use Rattle.store_finding.specs.Joined.{AreBefore}
use Rattle.store_finding.specs.StoredIds.{AreOfForm}
use Rattle.store_finding.proofs.Comparing.{Come}
use Rattle.store_finding.proofs.Extents.{AreJoinedTo}
use Rattle.store_finding.proofs.joining.Joining.take_epoch.Given as goal

abbrev pub invariant-loop-entry : goal.invariant-loop-entry
invariant-loop-entry g l = record {
  before : AreBefore (l.epoch + 1) l.joining.entries;
  named : LieIn 0 (named_length l.root l.epoch) l.fn.seen → AreNamed l.root l.fn.self.entries → (from : ℕ) × LieIn from (named_length l.root l.epoch) (into_iter_items l.entry-iterator) × AreJoinedTo l.epoch from (named_length l.root) l.joining.entries;
  ids : HaveIdsOf l.root.config.form l.fn.seen → AreOfForm l.root.config.form l.fn.self.entries → HaveIdsOf l.root.config.form (into_iter_items l.entry-iterator) × AreOfForm l.root.config.form l.joining.entries;
  come : WhereTold (λ k. Come l.root l.fn.self l.epoch l.fn.seen l.joining (into_iter_items l.entry-iterator) (as_read k)) (g.D.Disk.content l.fn.disk);
  reads : OnlyReads g.D.Disk l.fn.disk l.disk;
  kept : g.D.Disk.faults l.disk ≡ g.D.Disk.faults l.fn.disk;
  left : into_iter_len l.entry-iterator ≡ length (into_iter_items l.entry-iterator);
}
