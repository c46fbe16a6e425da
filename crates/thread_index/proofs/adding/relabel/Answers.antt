use Rattle.std.proofs.Common.{◌≡◌, ◌+◌}
use Rattle.std.proofs.Common.{arith}
use Rattle.thread_index.proofs.Gathered.{gives-take}
use Rattle.thread_index.proofs.adding.relabel.Goals as goal

-- src/adding.rt:82:5
pub loop-n-preserved : goal.loop-n-preserved
loop-n-preserved g c =
    record {
      labels = gives-take c.args.labels.now c.loop-n.labels c.set.new.self c.args.ns.now c.loop-n.n-index 0 c.args.label c.loop-n-test.true c.loop-n.invariant.labels c.in_ok-set.ensures.set;
      steps = let before : c.loop-n.steps ≡ c.args.steps.now + c.loop-n.n-index = c.loop-n.invariant.steps in
          let step : c.set.new.steps ≡ c.loop-n.steps + 1 = c.in_ok-set.ensures.steps in
          omega arith;
    }
