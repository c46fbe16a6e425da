use Rattle.std.proofs.Common.{◌≡◌, map, take}
use Rattle.thread_tree.specs.Trees.{live_node, put_nodes}
use Rattle.thread_tree.specs.Nodes.{nodes_in}
use Rattle.thread_tree.proofs.nodes.put_all_live.Given as goal

abbrev pub invariant-loop-twig : goal.invariant-loop-twig
invariant-loop-twig l = nodes_in l.nodes.keys ≡ put_nodes (nodes_in l.initial.nodes.keys) (map live_node (take l.twig-index l.twigs))
