-- The entries so far were taken.
use Rattle.std.specs.Prelude.{◌≡◌, ◌≤◌, ℕ, take, drop}
use Rattle.std.specs.List.{AllZip}
use Rattle.disk_model.specs.Disk.{WhereTold}
use Rattle.epoch_file.specs.Runs.{OnlyReads}
use Rattle.store_planning.specs.Planning.{ArePlansIn, IsTakenSo, PlansFirst, is_anew, loses}
use Rattle.store_planning.specs.Dropping.{KeptOf, without_blob}
use Rattle.epoch_store.proofs.store.Store.plan_entries.Given as goal

abbrev pub invariant-loop-entry : goal.invariant-loop-entry
invariant-loop-entry g l = record {
  kept : AllZip KeptOf (without_blob (take l.entry-index l.self.entries) l.blob) l.planned.entries;
  plans : ArePlansIn l.self.root l.planned;
  taken : IsTakenSo l.self.root (drop l.entry-index l.self.entries) l.planned;
  changes : (e : ℕ) → is_anew l.planned e ≡ loses (take l.entry-index l.self.entries) l.blob e;
  first : WhereTold (PlansFirst l.self l.blob l.entry-index l.planned) (g.D.Disk.content l.fn.disk);
  reads : OnlyReads g.D.Disk l.fn.disk l.disk;
  steady : g.D.Disk.faults l.disk ≡ g.D.Disk.faults l.fn.disk;
  fewest : g.D.Disk.reads l.fn.disk ≤ g.D.Disk.reads l.disk;
}
