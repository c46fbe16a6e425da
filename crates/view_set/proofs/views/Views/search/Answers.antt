use Rattle.std.proofs.Common.{◌≡◌, ◌∙◌, ap}
use Rattle.std.proofs.lemmas.Result.{IfOk-weaker}
use Rattle.overview_index.specs.Listings.{rows_numbered, listing}
use Rattle.view_set.specs.Viewed.{Viewed, searched}
use Rattle.word_index.specs.Rows.{found}
use Rattle.view_set.proofs.views.Views.search.Goals as goal

-- The numbers that were found, in the order of the rows' dates.
pub returns : goal.returns
returns c =
    IfOk-weaker c.newest_first.result (λ ns. ns ≡ listing (rows_numbered c.self.inside.overview c.as_slice.result.now)) (λ ns. ns ≡ searched c.args.query.now c.args.self.now)
    (λ ns is. is
    ∙ ap (λ found. listing (rows_numbered c.self.inside.overview found)) (c.as_slice.ensures ∙ c.in_ok-numbers.ensures)
    ∙ ap (λ (v : Viewed). listing (rows_numbered v.rows (found c.args.query.now c.args.self.now.words))) c.self.view_is)
    c.newest_first.ensures
