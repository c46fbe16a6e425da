use Rattle.std.proofs.Common.{◌≡◌, drop}
use Rattle.thread_model.specs.Members.{has}
use Rattle.thread_tests.proofs.plain.has_key.Given as goal

abbrev pub invariant-loop-k : goal.invariant-loop-k
invariant-loop-k l = has l.keys l.key ≡ has (drop l.k-index l.keys) l.key
