use Rattle.std.proofs.Common.{◌≡◌, ◌++◌, take, filter, flat_map}
use Rattle.thread_model.specs.Threads.{KeyedRow, shares}
use Rattle.thread_tests.proofs.plain.next_round.Given as goal

abbrev pub invariant-loop-row : goal.invariant-loop-row
invariant-loop-row l = l.next ≡ l.keys ++ flat_map (λ (r : KeyedRow). r.1) (filter (shares l.keys) (take l.row-index l.rows))
