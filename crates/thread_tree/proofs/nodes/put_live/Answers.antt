use Rattle.std.proofs.Common.{ℕ, List}
use Rattle.std.specs.BTreeSet.{insert_key}
use Rattle.thread_tree.specs.Nodes.{nodes_in}
use Rattle.thread_tree.specs.Trees.{node_cmp}
use Rattle.std.proofs.Common.{ap, ◌∙◌}
use Rattle.thread_tree.proofs.Ordered.{nodes-insert}
use Rattle.thread_tree.proofs.nodes.put_live.Goals as goal

-- src/nodes.rt:24:1
pub returns : goal.returns
returns c =
    let t = c.args.twig.now in
    let old = c.args.nodes.now.keys in
    ap nodes_in c.in_ok-insert.ensures.keys
    ∙ nodes-insert old (t.secs, t.number, c.in_ok-id.id)
    ∙ ap (λ (id : List ℕ). insert_key node_cmp (nodes_in old) (t.secs, t.number, id)) (c.in_ok-id.ensures.items_if_clones_equal (λ x y is. is) ∙ c.as_slice.ensures)
