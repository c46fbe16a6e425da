use Rattle.std.proofs.Common.{◌≡◌, ◌+◌, ◌*◌, ◌++◌, length, drop}
use Rattle.std.specs.List.{flat_map}
use Rattle.root_slots.specs.Spelling.{place_bytes}
use Rattle.root_slots.proofs.body.Body.push_places.Given as goal

abbrev pub invariant-loop-place : goal.invariant-loop-place
invariant-loop-place l = (l.self ++ flat_map place_bytes (drop l.place-index l.places) ≡ l.initial.self ++ flat_map place_bytes l.places) × (length l.self ≡ length l.initial.self + 16 * l.place-index)
