use Rattle.std.proofs.Common.{◌≡◌, ℕ, if◌then◌else◌, List}
use Rattle.std.specs.BTreeSet.{insert_key}
use Rattle.thread_tree.specs.Facts.{kept_ghost, kept_is_ghost}
use Rattle.thread_tree.specs.Nodes.{nodes_in}
use Rattle.thread_tree.specs.Trees.{node_cmp}
use Rattle.std.proofs.Common.{ap, ◌∙◌, get_or}
use Rattle.thread_tree.proofs.Ordered.{ghosts-take}
use Rattle.thread_tree.proofs.nodes.put_ghosts.Goals as goal

-- src/nodes.rt:68:5
pub loop-id-preserved : goal.loop-id-preserved
loop-id-preserved c =
    let facts = c.args.facts.now in
    let old = nodes_in c.loop-id.nodes.keys in
    let at : c.as_slice.result.now ≡ get_or c.args.refs.now c.loop-id.id-index c.id-item.result = c.as_slice.ensures ∙ c.id-item.is in
    ghosts-take (kept_ghost facts) (kept_is_ghost facts) c.args.refs.now c.loop-id.id-index c.id-item.result (nodes_in c.args.nodes.now.keys) old (nodes_in c.put_ghost.new.nodes.keys) c.loop-id-test.true c.loop-id.invariant
    (c.in_ok-put_ghost.ensures ∙ ap (λ (id : List ℕ). if kept_is_ghost facts id then insert_key node_cmp old (kept_ghost facts id) else old) at)
