use Rattle.std.proofs.Common.{ap, ◌∙◌}
use Rattle.std.specs.BTreeMap.{is_at}
use Rattle.std.specs.Set.{remove_key}
use Rattle.ranked_set.proofs.SortedKeys.{remove-insert}
use Rattle.overview_index.specs.Listings.{spot_cmp}
use Rattle.overview_index.proofs.Orders.{spots_total}
use Rattle.overview_index.proofs.views.Views.add.Goals as goal

pub returns-in-Err-clause-err : goal.returns-in-Err-clause-err
returns-in-Err-clause-err c =
    let spot = c.args.spot in
    let same = c.in-Err.ensures.err in
    record {
      dates = c.remove.ensures.keys ∙ ap (remove_key (is_at (spot_cmp spot))) (same.dates ∙ c.in_ok-insert.ensures.ok)
          ∙ remove-insert spots_total spot c.args.self.now.dates c.requires.new_spot;
      numbers = same.numbers;
      ids = same.ids;
    }
