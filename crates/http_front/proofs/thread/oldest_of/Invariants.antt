use Rattle.std.proofs.Common.{◌≡◌, ◌++◌, length, map}
use Rattle.arch_model.specs.Listings.{number_beside}
use Rattle.http_front.proofs.thread.oldest_of.Given as goal

abbrev pub invariant-loop-place : goal.invariant-loop-place
invariant-loop-place g l = l.numbers ++ map number_beside l.places.keys ≡ map number_beside l.initial.places.keys

abbrev pub decreases-loop-place : goal.decreases-loop-place
decreases-loop-place g l = length l.places.keys
