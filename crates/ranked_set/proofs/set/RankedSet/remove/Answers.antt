use Rattle.std.specs.BTreeMap.{is_at}
use Rattle.ranked_set.proofs.SetSteps.{removed_there, removed_none, sorted_removed}
use Rattle.ranked_set.proofs.set.RankedSet.remove.Goals as goal

pub returns-then-is_at-clause-keys : goal.returns-then-is_at-clause-keys
returns-then-is_at-clause-keys g c =
    removed_there g.met.K.Ord.total c.args.key.now c.self.inside.tree c.args.self.now c.rank-index.result c.is_at.result c.remove.new.self
    record { view = c.self.view_is; sorted = c.self.invariant; rank = c.rank-index.ensures.value; there = c.is_at.ensures.value } c.if-is_at.true c.remove.ensures

pub invariant_of-self : goal.invariant_of-self
invariant_of-self g c =
    let keys = removed_there g.met.K.Ord.total c.args.key.now c.self.inside.tree c.args.self.now c.rank-index.result c.is_at.result c.remove.new.self
    record { view = c.self.view_is; sorted = c.self.invariant; rank = c.rank-index.ensures.value; there = c.is_at.ensures.value } c.if-is_at.true c.remove.ensures in
    sorted_removed g.met.K.Ord.total (is_at (g.K.Ord.cmp c.args.key.now)) c.args.self.now c.remove.new.self c.is_at.ensures.ordered keys

pub returns-else-is_at-clause-keys : goal.returns-else-is_at-clause-keys
returns-else-is_at-clause-keys g c =
    removed_none g.met.K.Ord.total c.args.key.now c.self.inside.tree c.args.self.now c.rank-index.result c.is_at.result
    record { view = c.self.view_is; sorted = c.self.invariant; rank = c.rank-index.ensures.value; there = c.is_at.ensures.value } c.if-is_at.false
