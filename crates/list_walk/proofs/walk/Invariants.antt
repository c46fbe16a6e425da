use Rattle.std.proofs.Common.{length}
use Rattle.list_walk.proofs.walk.Given as goal

abbrev pub decreases-loop-list : goal.decreases-loop-list
decreases-loop-list l = length l.left
