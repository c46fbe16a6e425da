use Rattle.ranked_set.proofs.SetSteps.{looked_found}
use Rattle.ranked_set.proofs.set.RankedSet.contains.Goals as goal

pub returns : goal.returns
returns g c =
    looked_found g.met.K.Ord.total c.args.key.now c.self.inside.tree c.args.self.now c.rank.result c.is_at.result
    record { view = c.self.view_is; sorted = c.self.invariant; rank = c.rank.ensures.value; there = c.is_at.ensures.value }
