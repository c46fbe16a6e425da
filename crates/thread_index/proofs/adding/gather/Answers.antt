use Rattle.thread_index.specs.Lists.{list_at}
use Rattle.thread_index.proofs.Gathered.{gathers-take}
use Rattle.thread_index.proofs.adding.gather.Goals as goal

-- src/adding.rt:66:5
pub loop-label-preserved : goal.loop-label-preserved
loop-label-preserved c = gathers-take (list_at c.args.members.now) (list_at c.loop-label.members) (list_at c.gather_one.new.members) c.args.touched.now c.loop-label.label-index 0 c.args.target c.loop-label.moved.items c.gather_one.new.moved.items c.loop-label-test.true c.loop-label.invariant c.in_ok-gather_one.ensures
