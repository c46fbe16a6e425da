use Rattle.overview_index.proofs.SpotLaws.{are-spots}
use Rattle.overview_index.proofs.laws.spots_are_in_order.Goals as goal

pub returns : goal.returns
returns c = are-spots
