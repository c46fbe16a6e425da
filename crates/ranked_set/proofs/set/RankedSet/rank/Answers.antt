use Rattle.ranked_set.proofs.SetSteps.{looked_rank}
use Rattle.ranked_set.proofs.set.RankedSet.rank.Goals as goal

pub returns-clause-value : goal.returns-clause-value
returns-clause-value g c = looked_rank g.met.K.Ord.total c.args.key.now c.self.inside.tree c.args.self.now c.rank.result c.self.view_is c.self.invariant c.rank.ensures.value
