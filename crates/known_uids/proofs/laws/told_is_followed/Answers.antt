use Rattle.known_uids.proofs.Telling.{followed}
use Rattle.known_uids.proofs.laws.told_is_followed.Goals as goal

pub returns : goal.returns
returns c = followed
