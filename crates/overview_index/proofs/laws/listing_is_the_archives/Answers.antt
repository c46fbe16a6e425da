use Rattle.overview_index.proofs.Messages.{listing-is}
use Rattle.overview_index.proofs.laws.listing_is_the_archives.Goals as goal

pub returns : goal.returns
returns c = listing-is
