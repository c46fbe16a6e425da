use Rattle.std.proofs.Common.{take}
use Rattle.thread_index.proofs.Others.{AreGathered}
use Rattle.thread_index.proofs.rising.in_order.Given as goal

abbrev pub invariant-loop-n : goal.invariant-loop-n
invariant-loop-n l = AreGathered (take l.n-index l.ns) l.set.keys
