use Rattle.std.proofs.Common.{cond, ap, ◌∙◌}
use Rattle.std.specs.Prelude.{is_ok}
use Rattle.std.specs.BTreeSet.{insert_key}
use Rattle.ranked_set.proofs.SetSteps.{kept_there, inserted_new, sorted_inserted, on_ok_if}
use Rattle.ranked_set.proofs.set.RankedSet.insert.Goals as goal

pub returns-then-is_at-clause-ok : goal.returns-then-is_at-clause-ok
returns-then-is_at-clause-ok g c =
    kept_there g.met.K.Ord.total c.args.key c.self.inside.tree c.args.self.now c.rank-index.result c.is_at.result
    record { view = c.self.view_is; sorted = c.self.invariant; rank = c.rank-index.ensures.value; there = c.is_at.ensures.value } c.if-is_at.true

pub invariant_of-self : goal.invariant_of-self
invariant_of-self g c =
    let keys = inserted_new g.met.K.Ord.total c.args.key c.self.inside.tree c.args.self.now c.rank-index.result c.is_at.result (is_ok c.insert.result) c.insert.new.self
    record { view = c.self.view_is; sorted = c.self.invariant; rank = c.rank-index.ensures.value; there = c.is_at.ensures.value } c.if-is_at.false c.insert.ensures in
    sorted_inserted g.met.K.Ord.total c.args.key (is_ok c.insert.result) c.args.self.now c.insert.new.self c.is_at.ensures.ordered keys

pub returns-clause-ok : goal.returns-clause-ok
returns-clause-ok g c =
    let keys = inserted_new g.met.K.Ord.total c.args.key c.self.inside.tree c.args.self.now c.rank-index.result c.is_at.result (is_ok c.insert.result) c.insert.new.self
    record { view = c.self.view_is; sorted = c.self.invariant; rank = c.rank-index.ensures.value; there = c.is_at.ensures.value } c.if-is_at.false c.insert.ensures in
    on_ok_if c.insert.result (λ ok. keys ∙ ap (λ t. cond t (insert_key g.K.Ord.cmp c.args.self.now c.args.key) c.args.self.now) ok)
