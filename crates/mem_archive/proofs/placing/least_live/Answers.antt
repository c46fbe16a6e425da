use Rattle.std.proofs.Common.{◌∙◌, sym}
use Rattle.mem_archive.proofs.Numbers.{up-start, up-more, up-found, up-none}
use Rattle.mem_archive.proofs.placing.least_live.Goals as goal

pub loop-least-init : goal.loop-least-init
loop-least-init c = up-start c.args.places.now c.args.number c.max-least.result c.max-least.ensures

pub loop-least-preserved : goal.loop-least-preserved
loop-least-preserved c = up-more c.args.places.now c.args.number c.loop-least.least c.loop-least.invariant (sym c.is_live_at.ensures ∙ c.if-is_live_at.false)

pub returns-then-is_live_at : goal.returns-then-is_live_at
returns-then-is_live_at c = up-found c.args.places.now c.args.number c.loop-least.least c.loop-least.invariant (sym c.is_live_at.ensures ∙ c.if-is_live_at.true)

pub returns : goal.returns
returns c = up-none c.args.places.now c.args.number c.loop-least.least c.loop-least.invariant c.loop-least-test.false
