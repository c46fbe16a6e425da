use Rattle.std.proofs.Common.{sym}
use Rattle.overview_index.proofs.Ranges.{greatest-is}
use Rattle.overview_index.proofs.overview.Overview.live_to.Goals as goal

pub returns-in-Some : goal.returns-in-Some
returns-in-Some c =
    let part = c.range.ensures.in_range tt in
    let here = part.3 _ _ c.in-Some.ensures.steps in
    let last = part.4 _ _ c.in-Some.ensures.steps in
    rw (sym c.self.view_is) (greatest-is c.self.inside.rows.entries c.args.n c.in-Some.found.now c.in-Some.field-0-1.now here.0.1 here.1 (λ m up_to some. last m (tt, up_to) some))
