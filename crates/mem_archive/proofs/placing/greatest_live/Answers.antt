use Rattle.std.proofs.Common.{◌-◌, ◌∙◌, sym, arith}
use Rattle.mem_archive.proofs.Numbers.{down-start, down-more, down-found, down-none}
use Rattle.mem_archive.proofs.placing.greatest_live.Goals as goal

pub loop-below-init : goal.loop-below-init
loop-below-init c = down-start c.args.places.now c.args.number c.min-most.result c.min-most.ensures

pub loop-below-preserved : goal.loop-below-preserved
loop-below-preserved c = down-more c.args.places.now c.args.number c.min-most.result c.loop-below.below c.loop-below-test.true c.loop-below.invariant (sym c.is_live_at.ensures ∙ c.if-is_live_at.false)

pub returns-then-is_live_at : goal.returns-then-is_live_at
returns-then-is_live_at c =
    down-found c.args.places.now c.args.number c.min-most.result (c.min-most.result - c.loop-below.below) c.min-most.ensures (omega arith) c.loop-below.invariant (sym c.is_live_at.ensures ∙ c.if-is_live_at.true)

pub returns : goal.returns
returns c = down-none c.args.places.now c.args.number c.min-most.result c.loop-below.below c.loop-below-test.false c.loop-below.invariant
