use Rattle.thread_index.specs.Lists.{list_at}
use Rattle.thread_index.proofs.Gathered.{target-take}
use Rattle.thread_index.proofs.adding.target_of.Goals as goal

-- src/adding.rt:30:5
pub loop-label-preserved : goal.loop-label-preserved
loop-label-preserved c = target-take (list_at c.args.members.now) c.args.touched.now c.loop-label.label-index 0 c.loop-label.target c.longer-target.result c.loop-label-test.true c.loop-label.invariant c.longer-target.ensures
