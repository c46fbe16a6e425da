use Rattle.std.proofs.Common.{◌≡◌, false, sym, subst, get_or}
use Rattle.std.proofs.Math.ListN.{set}
use Rattle.std.proofs.lemmas.Option.{get_or_from_slice_get}
use Rattle.archive_core.specs.Placing.{ends_place}
use Rattle.archive_core.specs.declared.placing.MessagePlace.{MessagePlace}
use Rattle.archive_core.proofs.RisingPlaces.{set-ends, none-ends}
use Rattle.archive_core.proofs.placing.end_place.Goals as goal

pub returns-in-Some : goal.returns-in-Some
returns-in-Some c = λ rise.
    let read : c.in-Some.ensures.0 ≡ get_or c.args.places.now c.in-Some.index (record { number = 0; entry = 0; live = false }) = sym (get_or_from_slice_get c.args.places.now c.in-Some.index c.in-Some.ensures.0 _ c.in-Some.ensures.1) in
    subst (λ (p : MessagePlace). set c.args.places.now c.in-Some.index (record { number = p.number; entry = p.entry; live = false }) ≡ ends_place c.args.number c.args.places.now) read
    (set-ends 0 c.args.places.now c.in-Some.index c.in-Some.ensures.0 c.args.number rise c.in-Some.ensures.1 c.in-Some.ensures.2)

pub returns-in_default : goal.returns-in_default
returns-in_default c = λ rise. sym (none-ends c.args.number c.args.places.now (c.in_default.ensures rise))
