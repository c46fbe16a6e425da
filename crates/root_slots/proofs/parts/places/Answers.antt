-- One more place.
use Rattle.std.proofs.Common.{◌∙◌, arith, length-set}
use Rattle.root_slots.proofs.Reading.{reads_on}
use Rattle.root_slots.proofs.parts.places.Goals as goal

pub loop-i-preserved : goal.loop-i-preserved
loop-i-preserved c =
    let i = c.loop-i.i in
    let before = c.loop-i.invariant in
    let below = c.loop-i-test.true in
    let size = c.place.ensures.size in (
      omega (arith, before.0, size),
      (
        length-set c.loop-i.all i c.place.result.0 ∙ before.1.0,
        λ ps more fits count is.
            reads_on i c.loop-i.all ps c.loop-i.rest.now c.place.result.1.now more c.place.result.0 (omega (arith, below)) before.1.0 count (fits i (omega (arith, below))) c.place.ensures.read (before.1.1 ps more fits count is),
      ),
    )
