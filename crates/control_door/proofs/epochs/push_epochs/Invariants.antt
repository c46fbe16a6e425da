use Rattle.std.proofs.Common.{◌≡◌}
use Rattle.arch_model.specs.Archives.{Archive}
use Rattle.arch_model.specs.Shelves.{ShelfStays, ReadsUpTo}
use Rattle.control_door.specs.Door.{listed_below}
use Rattle.control_door.proofs.epochs.push_epochs.Given as goal

abbrev pub invariant-loop-epoch : goal.invariant-loop-epoch
invariant-loop-epoch g l = record {
  words : (a : Archive) → g.K.Shelf.holds l.fn.keep a → l.into ≡ listed_below a.config.form l.epoch a.entries;
  shelf : ShelfStays g.K.Shelf.holds g.K.Shelf.ready g.K.Shelf.alike g.K.Shelf.faults l.fn.keep l.keep;
  reads : ReadsUpTo l.epoch (g.K.Shelf.reads l.fn.keep) (g.K.Shelf.reads l.keep);
  kept : g.K.Shelf.faults l.keep ≡ g.K.Shelf.faults l.fn.keep;
}
