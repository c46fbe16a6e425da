use Rattle.html_pages.proofs.Links.{search_tags}
use Rattle.html_pages.proofs.laws.search_has_its_tags.Goals as goal

pub returns : goal.returns
returns c = search_tags
