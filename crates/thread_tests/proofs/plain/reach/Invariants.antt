use Rattle.std.proofs.Common.{◌≡◌, length, ◌-◌, ◌≤◌}
use Rattle.thread_model.specs.Threads.{rounds}
use Rattle.thread_tests.proofs.plain.reach.Given as goal

abbrev pub invariant-loop-made : goal.invariant-loop-made
invariant-loop-made l = record {
  all : l.all ≡ rounds l.made l.rows l.keys;
  within : l.made ≤ length l.rows;
}

abbrev pub decreases-loop-made : goal.decreases-loop-made
decreases-loop-made l = length l.rows - l.made
