use Rattle.std.proofs.Common.{◌≡◌, ◌++◌, length}
use Rattle.thread_index.proofs.rising.numbers_of.Given as goal

abbrev pub invariant-loop-n : goal.invariant-loop-n
invariant-loop-n l = l.numbers ++ l.set.keys ≡ l.initial.set.keys

abbrev pub decreases-loop-n : goal.decreases-loop-n
decreases-loop-n l = length l.set.keys
