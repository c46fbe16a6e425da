use Rattle.archive_core.proofs.Places.{FrontOf}
use Rattle.archive_core.proofs.placing.places_of.Given as goal

abbrev pub invariant-loop-index : goal.invariant-loop-index
invariant-loop-index l = FrontOf l.entries l.index l.places.items l.ended
