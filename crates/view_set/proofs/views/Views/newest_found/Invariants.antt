use Rattle.std.proofs.Common.{◌≡◌, ◌-◌, take}
use Rattle.std.specs.List.{filter}
use Rattle.overview_index.specs.Listings.{listing}
use Rattle.word_index.specs.Rows.{matching}
use Rattle.view_set.proofs.views.Views.newest_found.Given as goal

abbrev pub invariant-loop-at : goal.invariant-loop-at
invariant-loop-at l = l.found ≡ filter (matching l.query l.self-inside.words) (take l.at (listing l.self-inside.overview))

abbrev pub decreases-loop-at : goal.decreases-loop-at
decreases-loop-at l = l.most - l.at
