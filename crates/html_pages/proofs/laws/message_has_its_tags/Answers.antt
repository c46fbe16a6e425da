use Rattle.html_pages.proofs.Links.{message_tags}
use Rattle.html_pages.proofs.laws.message_has_its_tags.Goals as goal

pub returns : goal.returns
returns c = message_tags
