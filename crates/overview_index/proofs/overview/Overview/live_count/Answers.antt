use Rattle.std.proofs.Common.{ap, ◌∙◌}
use Rattle.std.specs.Map.{keys_of}
use Rattle.overview_index.proofs.Ranges.{live_is}
use Rattle.overview_index.proofs.overview.Overview.live_count.Goals as goal

pub returns : goal.returns
returns c =
    c.saturating_sub.ensures
    ∙ live_is c.args.self.now c.self.inside.views.numbers c.args.low c.args.high c.rank-below.result c.rank-up_to.result (c.self.invariant.numbers ∙ ap keys_of c.self.view_is)
    (rw c.from.ensures at c.rank-below.ensures.value) (rw c.from-2.ensures at c.rank-up_to.ensures.value)
