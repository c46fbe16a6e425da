use Rattle.std.proofs.Common.{◌≡◌, ℕ, map, take}
use Rattle.thread_tree.specs.Nodes.{kept_line, node_at, nodes_in}
use Rattle.thread_tree.proofs.nodes.lines_of.Given as goal

abbrev pub invariant-loop-depth : goal.invariant-loop-depth
invariant-loop-depth l = l.lines ≡ map (λ (x : ℕ × ℕ). kept_line l.facts x.0 (node_at (nodes_in l.nodes) x.1)) (take l.depth-index l.walked)
