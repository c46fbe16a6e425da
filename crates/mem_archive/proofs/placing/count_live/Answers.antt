use Rattle.mem_archive.proofs.Numbers.{count-start, count-more, count-end}
use Rattle.mem_archive.proofs.placing.count_live.Goals as goal

pub loop-found-init : goal.loop-found-init
loop-found-init c = count-start c.args.places.now c.args.low c.args.high

pub loop-found-preserved : goal.loop-found-preserved
loop-found-preserved c = count-more c.args.places.now c.args.low c.args.high c.loop-found.found-index c.loop-found.number c.loop-found.count _ c.one_if-count.result c.loop-found-test.true c.one_if-count.ensures c.loop-found.invariant

pub returns : goal.returns
returns c = count-end c.args.places.now c.args.low c.args.high c.loop-found.found-index c.loop-found.number c.loop-found.count c.loop-found-test.false c.loop-found.invariant
