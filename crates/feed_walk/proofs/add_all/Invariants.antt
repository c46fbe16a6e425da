use Rattle.std.proofs.Common.{length}
use Rattle.feed_walk.proofs.add_all.Given as goal

abbrev pub decreases-loop-mail : goal.decreases-loop-mail
decreases-loop-mail l = length l.left
