-- The plan with the range is one.
use Rattle.std.proofs.Common.{arith}
use Rattle.root_change.proofs.Builds.{holds_range}
use Rattle.root_change.proofs.plan.PartPlan.push_range.Goals as goal

pub invariant_of-self-2 : goal.invariant_of-self-2
invariant_of-self-2 c =
    let was = c.self.inside in
    let ends = c.in_ok-more.ensures.sum in
    let below = c.in_ok-more.ensures.short in
    holds_range was.kind was.number was.target was.bytes was.sources was.count c.in_ok-all.all c.args.file c.args.offset c.args.count c.push.new.self c.self.invariant c.in_ok-all.ensures.sum c.in_ok-all.ensures.short (omega (arith, ends, below)) c.in_ok-push.ensures

pub returns-clause-valid : goal.returns-clause-valid
returns-clause-valid c =
    let was = c.self.inside in
    let ends = c.in_ok-more.ensures.sum in
    let below = c.in_ok-more.ensures.short in
    (holds_range was.kind was.number was.target was.bytes was.sources was.count c.in_ok-all.all c.args.file c.args.offset c.args.count c.push.new.self c.self.invariant c.in_ok-all.ensures.sum c.in_ok-all.ensures.short (omega (arith, ends, below)) c.in_ok-push.ensures).0
