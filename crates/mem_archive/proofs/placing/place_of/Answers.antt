use Rattle.mem_archive.proofs.Numbers.{place-zero, place-none, place-some}
use Rattle.mem_archive.proofs.placing.place_of.Goals as goal

pub returns-then-number-eq0 : goal.returns-then-number-eq0
returns-then-number-eq0 c = place-zero c.args.places.now c.args.number c.if-number-eq0.true

pub returns-in-None : goal.returns-in-None
returns-in-None c = place-none c.args.places.now c.args.number c.if-number-eq0.false c.in-None.ensures.lookup.3

pub returns-in-Some : goal.returns-in-Some
returns-in-Some c = place-some c.args.places.now c.args.number c.in-Some.found.now c.if-number-eq0.false c.in-Some.ensures.lookup.3.0 c.in-Some.ensures.lookup.1
