use Rattle.view_set.proofs.Messages.{threads-are}
use Rattle.view_set.proofs.laws.threads_are_the_archives.Goals as goal

pub returns : goal.returns
returns c = threads-are
