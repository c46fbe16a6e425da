use Rattle.std.proofs.Common.{take}
use Rattle.thread_index.specs.Lists.{list_at_key}
use Rattle.thread_index.specs.Taking.{LetGo}
use Rattle.thread_index.proofs.taking.let_go.Given as goal

abbrev pub invariant-loop-key : goal.invariant-loop-key
invariant-loop-key l = LetGo (list_at_key l.initial.holders) (list_at_key l.holders) (take l.key-index l.keys) l.n
