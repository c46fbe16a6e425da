use Rattle.std.proofs.Common.{◌≡◌, ◌+◌, length}
use Rattle.thread_index.specs.Lists.{list_at, list_at_key}
use Rattle.thread_index.specs.Taking.{IsPartial}
use Rattle.thread_index.proofs.dividing.divide.Given as goal

abbrev pub invariant-loop-seed : goal.invariant-loop-seed
invariant-loop-seed g l = record {
  index : IsPartial l.rows.entries l.pending.keys l.labels (list_at l.members) (list_at_key l.holders);
  steps : l.steps + length l.pending.keys ≡ l.initial.steps + length l.initial.pending.keys;
}

abbrev pub decreases-loop-seed : goal.decreases-loop-seed
decreases-loop-seed g l = length l.pending.keys
