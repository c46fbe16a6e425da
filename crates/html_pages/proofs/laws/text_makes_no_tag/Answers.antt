use Rattle.web_text.proofs.Markup.{text_none}
use Rattle.html_pages.proofs.laws.text_makes_no_tag.Goals as goal

pub returns : goal.returns
returns c = text_none
