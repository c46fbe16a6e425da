use Rattle.std.proofs.Common.{◌≡◌, ◌+◌, ◌*◌, ◌<◌, ◌++◌, List, ℕ, length, get_or}
use Rattle.std.specs.List.{flat_map}
use Rattle.root_slots.specs.declared.root.Place.{Place}
use Rattle.root_slots.specs.Spelling.{place_bytes}
use Rattle.root_slots.specs.Valid.{no_place, PlaceFits}
use Rattle.root_slots.proofs.Reading.{HasRead}
use Rattle.root_slots.proofs.parts.places.Given as goal

abbrev pub invariant-loop-i : goal.invariant-loop-i
invariant-loop-i l = (length l.rest + 16 * l.i ≡ length l.bytes) × ((length l.all ≡ 64) × ((ps : List Place) (more : List ℕ) → ((k : ℕ) → k < 64 → PlaceFits (get_or ps k no_place)) → length ps ≡ 64 → l.bytes ≡ flat_map place_bytes ps ++ more → HasRead l.i l.all l.rest ps more))
