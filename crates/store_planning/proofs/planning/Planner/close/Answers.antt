-- The epoch isn't planned yet.
use Rattle.store_planning.proofs.Apart.{epoch_apart}
use Rattle.store_planning.proofs.planning.Planner.close.Goals as goal

pub push-requires-clause-apart : goal.push-requires-clause-apart
push-requires-clause-apart c = epoch_apart c.args.self.now.plans c.args.plan.file c.in-Some.plan c.in-Some.ensures.epoch c.requires
