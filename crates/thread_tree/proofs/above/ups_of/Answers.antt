use Rattle.std.proofs.Common.{ℕ}
use Rattle.thread_tree.specs.Facts.{kept_up}
use Rattle.thread_tree.specs.Nodes.{index_bound}
use Rattle.std.proofs.Common.{ap, map, ◌∙◌}
use Rattle.std.specs.Global.{Vec}
use Rattle.std.proofs.lemmas.List.{take_all}
use Rattle.thread_tree.proofs.Aboves.{ups-are}
use Rattle.thread_tree.proofs.above.ups_of.Goals as goal

-- src/above.rt:47:1
pub returns : goal.returns
returns c =
    let nodes = c.args.nodes.now in
    let facts = c.args.facts.now in
    let index = c.in_ok-index.index in
    ups-are facts nodes index c.loop-node.ups.items c.requires.closed c.in_ok-index.ensures
    (c.loop-node.invariant ∙ ap (map (λ (n : ℕ × ℕ × Vec ℕ). index_bound index (kept_up facts n.2.items))) (take_all c.loop-node.node-index nodes c.loop-node-test.false))
