use Rattle.std.specs.BTreeSet.{insert_key}
use Rattle.thread_tree.specs.Nodes.{nodes_in}
use Rattle.thread_tree.specs.Trees.{live_node, node_cmp}
use Rattle.std.proofs.Common.{ap, ◌∙◌}
use Rattle.thread_tree.specs.declared.twigs.Twig.{Twig}
use Rattle.thread_tree.proofs.Ordered.{live-take}
use Rattle.thread_tree.proofs.nodes.put_all_live.Goals as goal

-- src/nodes.rt:38:5
pub loop-twig-preserved : goal.loop-twig-preserved
loop-twig-preserved c =
    live-take c.args.twigs.now c.loop-twig.twig-index c.twig-item.result (nodes_in c.args.nodes.now.keys) (nodes_in c.loop-twig.nodes.keys) (nodes_in c.put_live.new.nodes.keys) c.loop-twig-test.true c.loop-twig.invariant
    (c.in_ok-put_live.ensures ∙ ap (λ (t : Twig). insert_key node_cmp (nodes_in c.loop-twig.nodes.keys) (live_node t)) c.twig-item.is)
