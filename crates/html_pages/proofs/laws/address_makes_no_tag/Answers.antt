use Rattle.html_pages.proofs.Markup.{address_none}
use Rattle.html_pages.proofs.laws.address_makes_no_tag.Goals as goal

pub returns : goal.returns
returns c = address_none
