-- The places up to an index fit.
use Rattle.std.proofs.Common.{ℕ, ◌<◌, get_or}
use Rattle.root_slots.specs.Valid.{PlaceFits, no_place}
use Rattle.root_slots.proofs.root.root_fits.Given as goal

abbrev pub invariant-loop-index : goal.invariant-loop-index
invariant-loop-index l = (j : ℕ) → j < l.index → PlaceFits (get_or l.root.epochs j no_place)
