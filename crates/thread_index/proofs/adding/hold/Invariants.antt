use Rattle.std.proofs.Common.{take}
use Rattle.thread_index.specs.Lists.{list_at_key}
use Rattle.thread_index.specs.Adding.{HeldBy}
use Rattle.thread_index.proofs.adding.hold.Given as goal

abbrev pub invariant-loop-key : goal.invariant-loop-key
invariant-loop-key l = HeldBy (list_at_key l.initial.holders) (list_at_key l.holders) (take l.key-index l.keys) l.n
