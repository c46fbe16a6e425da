use Rattle.view_set.proofs.Filtering.{search-filters}
use Rattle.view_set.proofs.laws.search_filters_the_listing.Goals as goal

pub returns : goal.returns
returns c = search-filters
