use Rattle.std.proofs.Common.{◌∙◌}
use Rattle.overview_index.specs.Listings.{listing}
use Rattle.word_index.specs.Rows.{matching}
use Rattle.view_set.proofs.Newest.{front-more}
use Rattle.view_set.proofs.views.Views.newest_found.Goals as goal

pub loop-at-preserved : goal.loop-at-preserved
loop-at-preserved c =
    front-more (matching c.args.query.now c.self.inside.words) (listing c.self.inside.overview) c.loop-at.found _ c.append_matches.new.into c.loop-at.at c.min-count.result c.loop-at.invariant
    (c.as_slice-in-loop-at.ensures ∙ c.in_ok-rows.ensures) c.in_ok-append_matches.ensures
