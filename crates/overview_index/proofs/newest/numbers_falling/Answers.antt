use Rattle.std.proofs.Common.{map, reverse}
use Rattle.overview_index.specs.Listings.{number_at}
use Rattle.overview_index.proofs.NewestFirst.{falling-more}
use Rattle.overview_index.proofs.newest.numbers_falling.Goals as goal

pub loop-spot-preserved : goal.loop-spot-preserved
loop-spot-preserved c =
    falling-more c.loop-spot.numbers c.push.new.self (map number_at (reverse c.args.spots.keys)) c.loop-spot.spots.keys c.pop_last.new.self.keys c.in-Some.spot c.in-Some.ensures.removal c.in_ok-push.ensures c.loop-spot.invariant
