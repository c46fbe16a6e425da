use Rattle.std.proofs.Common.{length}
use Rattle.known_uids.proofs.gone.+gone.Given as goal

abbrev pub decreases-push_gone : goal.decreases-push_gone
decreases-push_gone g l = length l.uids.now
