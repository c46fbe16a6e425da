use Rattle.std.proofs.Common.{take}
use Rattle.thread_index.specs.Lists.{list_at}
use Rattle.thread_index.proofs.Gathered.{IsTargetOf}
use Rattle.thread_index.proofs.adding.target_of.Given as goal

abbrev pub invariant-loop-label : goal.invariant-loop-label
invariant-loop-label l = IsTargetOf (list_at l.members) l.touched (take l.label-index l.touched) l.target
