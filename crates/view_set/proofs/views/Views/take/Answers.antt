use Rattle.view_set.proofs.Keyed.{threaded-taken}
use Rattle.view_set.proofs.Worded.{worded-taken}
use Rattle.view_set.proofs.views.Views.take.Goals as goal

pub invariant_of-self : goal.invariant_of-self
invariant_of-self c = rw (c.take.ensures.rows, c.take-2.ensures.taken) (
  threaded-taken c.self.inside.overview c.self.inside.threads c.take_thread.new.threads c.args.n c.self.invariant.0 c.take_thread.ensures,
  worded-taken c.self.inside.overview c.self.inside.words c.args.n c.self.invariant.1,
)
