-- The adoption is one of the store, whose files still have their sizes.
use Rattle.disk_model.specs.Disk.{WhereTold}
use Rattle.epoch_store.specs.Adopting.{IsAdoptionOf}
use Rattle.epoch_store.specs.Commands.{StoreHasSizes}
use Rattle.store_tests.proofs.adopt_tests.take_lines.Given as goal

abbrev pub invariant-loop-index : goal.invariant-loop-index
invariant-loop-index g l = record {
  of : IsAdoptionOf l.store l.adoption;
  sizes : WhereTold (StoreHasSizes l.store) (g.D.Disk.content l.disk);
}
