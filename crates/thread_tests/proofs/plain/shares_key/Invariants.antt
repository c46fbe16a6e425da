use Rattle.std.proofs.Common.{◌≡◌, drop}
use Rattle.std.specs.List.{list_any}
use Rattle.thread_model.specs.Members.{has}
use Rattle.thread_tests.proofs.plain.shares_key.Given as goal

abbrev pub invariant-loop-key : goal.invariant-loop-key
invariant-loop-key l = list_any (has l.keys) l.row ≡ list_any (has l.keys) (drop l.key-index l.row)
