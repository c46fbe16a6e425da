use Rattle.html_pages.proofs.Links.{listing_tags}
use Rattle.html_pages.proofs.laws.listing_has_its_tags.Goals as goal

pub returns : goal.returns
returns c = listing_tags
