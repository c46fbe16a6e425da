-- No sync is at or after the index that the search has reached.
use Rattle.std.proofs.Common.{◌≤◌, length, drop}
use Rattle.disk_model.specs.Applied.{AreUnsynced}
use Rattle.disk_model.proofs.again.last_sync.Given as goal

abbrev pub invariant-loop-end : goal.invariant-loop-end
invariant-loop-end l = record { within : l.end ≤ length l.changes; rest : AreUnsynced (drop l.end l.changes) }

abbrev pub decreases-loop-end : goal.decreases-loop-end
decreases-loop-end l = l.end
