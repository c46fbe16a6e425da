use Rattle.std.proofs.Common.{length}
use Rattle.entry_walk.proofs.walk.Given as goal

abbrev pub decreases-loop-event : goal.decreases-loop-event
decreases-loop-event l = length l.left
