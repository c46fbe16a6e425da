use Rattle.http_front.proofs.Paging.{listing-whole}
use Rattle.http_front.proofs.laws.listing_is_whole.Goals as goal

pub returns : goal.returns
returns c = listing-whole
