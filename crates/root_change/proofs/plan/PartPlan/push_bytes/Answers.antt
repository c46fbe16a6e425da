-- The plan with the bytes is one.
use Rattle.std.proofs.Common.{rules}
use Rattle.root_change.proofs.Builds.{holds_bytes}
use Rattle.root_change.proofs.plan.PartPlan.push_bytes.Goals as goal

pub invariant_of-self-2 : goal.invariant_of-self-2
invariant_of-self-2 c =
    let was = c.self.inside in
    holds_bytes was.kind was.number was.target was.bytes was.sources was.count c.in_ok-all.all c.args.bytes.now c.push_slice.new.self c.push.new.self c.self.invariant c.in_ok-all.ensures.sum c.in_ok-all.ensures.short c.in_default.ensures (search rules)

pub returns-clause-valid : goal.returns-clause-valid
returns-clause-valid c =
    let was = c.self.inside in
    (holds_bytes was.kind was.number was.target was.bytes was.sources was.count c.in_ok-all.all c.args.bytes.now c.push_slice.new.self c.push.new.self c.self.invariant c.in_ok-all.ensures.sum c.in_ok-all.ensures.short c.in_default.ensures (search rules)).0
