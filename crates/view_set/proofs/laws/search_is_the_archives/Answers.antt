use Rattle.view_set.proofs.Searching.{search-is}
use Rattle.view_set.proofs.laws.search_is_the_archives.Goals as goal

pub returns : goal.returns
returns c = search-is
