use Rattle.std.proofs.Common.{◌≡◌, map, take, filter}
use Rattle.thread_model.specs.Threads.{KeyedRow, shares}
use Rattle.thread_tests.proofs.plain.numbers_with.Given as goal

abbrev pub invariant-loop-row : goal.invariant-loop-row
invariant-loop-row l = l.numbers ≡ map (λ (r : KeyedRow). r.0) (filter (shares l.keys) (take l.row-index l.rows))
