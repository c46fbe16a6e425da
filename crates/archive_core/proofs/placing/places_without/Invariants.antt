use Rattle.archive_core.proofs.Dropping.{FrontWithout}
use Rattle.archive_core.proofs.placing.places_without.Given as goal

abbrev pub invariant-loop-index : goal.invariant-loop-index
invariant-loop-index l = FrontWithout l.entries l.blob l.index l.left l.places.items l.ended
