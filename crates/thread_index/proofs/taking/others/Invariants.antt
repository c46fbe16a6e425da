use Rattle.std.proofs.Common.{take}
use Rattle.thread_index.specs.Taking.{AreOthers}
use Rattle.thread_index.proofs.taking.others.Given as goal

abbrev pub invariant-loop-m : goal.invariant-loop-m
invariant-loop-m l = AreOthers (take l.m-index l.ns) l.n l.found.keys
