use Rattle.std.proofs.Common.{◌≡◌, [], map, take, flat_map}
use Rattle.thread_tree.specs.Trees.{live_node, put_nodes}
use Rattle.thread_tree.specs.Nodes.{nodes_in}
use Rattle.thread_tree.proofs.Ordered.{kept_ghosts}
use Rattle.thread_tree.proofs.nodes.nodes_of.Given as goal

abbrev pub invariant-loop-twig : goal.invariant-loop-twig
invariant-loop-twig l = nodes_in l.nodes.keys ≡ put_nodes (put_nodes [] (map live_node l.twigs)) (flat_map (kept_ghosts l.facts) (take l.twig-index l.twigs))
