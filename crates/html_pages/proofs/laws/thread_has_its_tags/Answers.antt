use Rattle.html_pages.proofs.Links.{thread_tags}
use Rattle.html_pages.proofs.laws.thread_has_its_tags.Goals as goal

pub returns : goal.returns
returns c = thread_tags
