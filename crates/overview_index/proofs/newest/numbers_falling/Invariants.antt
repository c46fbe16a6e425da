use Rattle.std.proofs.Common.{◌≡◌, ◌++◌, length, map, reverse}
use Rattle.overview_index.specs.Listings.{number_at}
use Rattle.overview_index.proofs.newest.numbers_falling.Given as goal

abbrev pub invariant-loop-spot : goal.invariant-loop-spot
invariant-loop-spot l = l.numbers ++ map number_at (reverse l.spots.keys) ≡ map number_at (reverse l.initial.spots.keys)

abbrev pub decreases-loop-spot : goal.decreases-loop-spot
decreases-loop-spot l = length l.spots.keys
