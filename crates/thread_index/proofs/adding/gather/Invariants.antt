use Rattle.std.proofs.Common.{take}
use Rattle.thread_index.specs.Lists.{list_at}
use Rattle.thread_index.specs.Adding.{Gathers}
use Rattle.thread_index.proofs.adding.gather.Given as goal

abbrev pub invariant-loop-label : goal.invariant-loop-label
invariant-loop-label l = Gathers (list_at l.initial.members) (list_at l.members) (take l.label-index l.touched) l.target l.moved.items
