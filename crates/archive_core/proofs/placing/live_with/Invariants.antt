use Rattle.archive_core.proofs.Dropping.{NoneLive}
use Rattle.archive_core.proofs.placing.live_with.Given as goal

abbrev pub invariant-loop-place : goal.invariant-loop-place
invariant-loop-place l = NoneLive l.places l.entries l.blob l.place-index
