use Rattle.std.proofs.Common.{take}
use Rattle.thread_index.specs.Lists.{list_at_key}
use Rattle.thread_index.specs.Taking.{AreSeen, HoldsOne, MovesPending}
use Rattle.thread_index.proofs.dividing.visit_keys.Given as goal

abbrev pub invariant-loop-key : goal.invariant-loop-key
invariant-loop-key l = record {
  moves : MovesPending (HoldsOne (list_at_key l.holders) (take l.key-index l.keys)) l.initial.pending.keys l.pending.keys l.initial.part.items l.part.items;
  seen : AreSeen l.seen (list_at_key l.holders) l.pending.keys;
}
