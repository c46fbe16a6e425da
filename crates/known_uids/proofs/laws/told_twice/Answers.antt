use Rattle.known_uids.proofs.Telling.{told_again}
use Rattle.known_uids.proofs.laws.told_twice.Goals as goal

pub returns : goal.returns
returns c = told_again
