use Rattle.std.proofs.Common.{drop}
use Rattle.archive_core.specs.Placing.{PlacesFrom, PlacesRise}
use Rattle.archive_core.proofs.placing.are_rising.Given as goal

abbrev pub invariant-loop-place : goal.invariant-loop-place
invariant-loop-place l = PlacesFrom l.least (drop l.place-index l.places) → PlacesRise l.places
