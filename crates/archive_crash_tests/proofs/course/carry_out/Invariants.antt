-- The files still have their sizes.
use Rattle.disk_model.specs.Disk.{WhereTold}
use Rattle.epoch_store.specs.Commands.{StoreHasSizes}
use Rattle.archive_crash_tests.proofs.course.carry_out.Given as goal

abbrev pub invariant-loop-step : goal.invariant-loop-step
invariant-loop-step g l = WhereTold (StoreHasSizes l.archive) (g.D.Disk.content l.disk)
