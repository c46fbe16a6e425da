use Rattle.std.proofs.Common.{◌+◌, ◌-◌, length}
use Rattle.thread_index.specs.Lists.{list_at_key}
use Rattle.thread_index.specs.Taking.{AreSeen, IsThreadPart}
use Rattle.thread_index.proofs.dividing.walk.Given as goal

abbrev pub invariant-loop-i : goal.invariant-loop-i
invariant-loop-i l = record {
  part : IsThreadPart l.rows.entries (list_at_key l.holders) l.initial.pending.keys l.pending.keys l.seed l.part.items l.i;
  seen : AreSeen l.seen (list_at_key l.holders) l.pending.keys;
}

abbrev pub decreases-loop-i : goal.decreases-loop-i
decreases-loop-i l = length l.part.items + length l.pending.keys - l.i
