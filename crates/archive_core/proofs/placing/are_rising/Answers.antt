use Rattle.std.proofs.Common.{◌+◌, ◌≤◌, ℕ, false, drop, get_or, subst, arith}
use Rattle.archive_core.specs.Placing.{PlacesFrom}
use Rattle.archive_core.specs.declared.placing.MessagePlace.{MessagePlace}
use Rattle.archive_core.proofs.RisingPlaces.{rising-more, rising-all}
use Rattle.archive_core.proofs.placing.are_rising.Goals as goal

pub loop-place-preserved : goal.loop-place-preserved
loop-place-preserved c = λ later.
    let none : MessagePlace = record { number = 0; entry = 0; live = false } in
    let low : c.loop-place.least ≤ (get_or c.args.places.now c.loop-place.place-index none).number = omega (arith, c.if-from-least.false, c.from.ensures) in
    c.loop-place.invariant (rising-more c.args.places.now c.loop-place.place-index none c.loop-place.least c.loop-place-test.true low
    (subst (λ (n : ℕ). PlacesFrom (n + 1) (drop (c.loop-place.place-index + 1) c.args.places.now)) c.from-least.ensures later))

pub returns : goal.returns
returns c = λ yes. c.loop-place.invariant (rising-all c.args.places.now c.loop-place.place-index c.loop-place.least (omega arith))
