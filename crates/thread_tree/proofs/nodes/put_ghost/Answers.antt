use Rattle.std.proofs.Common.{if◌then◌else◌, Bool}
use Rattle.std.specs.BTreeSet.{insert_key}
use Rattle.thread_tree.specs.Facts.{kept_ghost}
use Rattle.thread_tree.specs.Nodes.{nodes_in}
use Rattle.thread_tree.specs.Trees.{node_cmp}
use Rattle.std.proofs.Common.{ap, ◌∙◌}
use Rattle.thread_tree.proofs.Ordered.{nodes-insert}
use Rattle.thread_tree.proofs.nodes.put_ghost.Goals as goal

-- src/nodes.rt:45:1
pub returns : goal.returns
returns c =
    let old = c.args.nodes.now.keys in
    let here = insert_key node_cmp (nodes_in old) (kept_ghost c.args.facts.now c.args.id.now) in
    ap nodes_in c.in_ok-insert.ensures.keys
    ∙ nodes-insert old c.in_ok-node.node
    ∙ ap (insert_key node_cmp (nodes_in old)) c.in_ok-node.ensures
    ∙ ap (λ (b : Bool). if b then here else nodes_in old) c.if-not-is_ghost.ensures
