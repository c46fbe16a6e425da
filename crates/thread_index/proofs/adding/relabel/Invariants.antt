use Rattle.std.proofs.Common.{◌≡◌, ◌+◌, take}
use Rattle.thread_index.specs.Adding.{GiveLabel}
use Rattle.thread_index.proofs.adding.relabel.Given as goal

abbrev pub invariant-loop-n : goal.invariant-loop-n
invariant-loop-n g l = record {
  labels : GiveLabel l.initial.labels l.labels (take l.n-index l.ns) l.label;
  steps : l.steps ≡ l.initial.steps + l.n-index;
}
