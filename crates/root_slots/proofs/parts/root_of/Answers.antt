-- One part after the other.
use Rattle.std.proofs.Common.{ap, Some, arith}
use Rattle.root_slots.specs.declared.root.Root.{Root}
use Rattle.root_slots.proofs.Reading.{root_parts, root_is, some_is, none_isnt}
use Rattle.root_slots.proofs.parts.root_of.Goals as goal

pub returns-in-Some : goal.returns-in-Some
returns-in-Some c = λ r fits valid is.
    let sequence = c.number64-sequence.ensures.read r.sequence _ fits.sequence (root_parts c.args.body.now r is) in
    let config = c.config-config.ensures.read r.config _ fits.name valid.config sequence.1 in
    let next = c.number32-next.ensures.read r.next _ (omega (arith, valid.next_most)) config.1 in
    let map = c.place.ensures.read r.map _ fits.map next.1 in
    let epochs = c.places.ensures.read r.epochs _ fits.epochs fits.count map.1 in
    let cache = c.place-2.ensures.read r.cache _ fits.cache epochs.1 in
    ap (λ (x : Root). Some x) (root_is _ r (some_is c.config-config.result.0 c.in-Some.config r.config c.in-Some.is config.0) sequence.0 next.0 map.0 epochs.0 cache.0)

pub returns-in-None : goal.returns-in-None
returns-in-None c = λ r fits valid is.
    let sequence = c.number64-sequence.ensures.read r.sequence _ fits.sequence (root_parts c.args.body.now r is) in
    let config = c.config-config.ensures.read r.config _ fits.name valid.config sequence.1 in
    absurd (none_isnt c.config-config.result.0 r.config c.in-None.is config.0)
