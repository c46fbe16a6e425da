use Rattle.std.proofs.Common.{◌≡◌, ℕ, map, take}
use Rattle.std.specs.Global.{Vec}
use Rattle.thread_tree.specs.Facts.{kept_up}
use Rattle.thread_tree.specs.Nodes.{index_bound}
use Rattle.thread_tree.proofs.above.ups_of.Given as goal

abbrev pub invariant-loop-node : goal.invariant-loop-node
invariant-loop-node l = l.ups.items ≡ map (λ (n : ℕ × ℕ × Vec ℕ). index_bound l.index (kept_up l.facts n.2.items)) (take l.node-index l.nodes)
