-- The files still have their sizes.
use Rattle.disk_model.specs.Disk.{WhereTold}
use Rattle.epoch_store.specs.Commands.{StoreHasSizes}
use Rattle.archive_tests.proofs.core_tests.answers_alike.Given as goal

abbrev pub invariant-loop-bytes : goal.invariant-loop-bytes
invariant-loop-bytes g l = WhereTold (StoreHasSizes l.archive) (g.D.Disk.content l.disk)
