use Rattle.std.proofs.Common.{take}
use Rattle.thread_model.specs.Members.{Among}
use Rattle.thread_index.specs.Taking.{MovesPending}
use Rattle.thread_index.proofs.dividing.move_all.Given as goal

abbrev pub invariant-loop-n : goal.invariant-loop-n
invariant-loop-n l = MovesPending (Among (take l.n-index l.ns)) l.initial.pending.keys l.pending.keys l.initial.part.items l.part.items
