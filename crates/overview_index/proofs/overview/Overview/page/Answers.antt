use Rattle.std.proofs.Common.{◌≡◌, map, take, drop, ap, ◌∙◌}
use Rattle.std.proofs.lemmas.Result.{IfOk-weaker}
use Rattle.overview_index.specs.Listings.{number_at, spots, listing}
use Rattle.overview_index.proofs.Pages.{page-is}
use Rattle.overview_index.proofs.overview.Overview.page.Goals as goal

pub returns : goal.returns
returns c =
    let rows = c.args.self.now in
    let shown = c.as_slice.result.now in
    IfOk-weaker c.numbers_of.result (λ page. page ≡ map number_at shown) (λ page. page ≡ take c.args.count (drop c.args.skip (listing rows)))
    (λ page e. page-is rows c.self.inside.views.dates shown c.args.skip c.args.count page (c.self.invariant.dates ∙ ap spots c.self.view_is) (c.as_slice.ensures.value ∙ c.in_ok-spots.ensures) e)
    c.numbers_of.ensures
