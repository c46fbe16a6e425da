use Rattle.std.proofs.Common.{◌≡◌, map, take, filter}
use Rattle.thread_tree.specs.Trees.{put_nodes}
use Rattle.thread_tree.specs.Facts.{kept_ghost, kept_is_ghost}
use Rattle.thread_tree.specs.Nodes.{nodes_in}
use Rattle.thread_tree.proofs.nodes.put_ghosts.Given as goal

abbrev pub invariant-loop-id : goal.invariant-loop-id
invariant-loop-id l = nodes_in l.nodes.keys ≡ put_nodes (nodes_in l.initial.nodes.keys) (map (kept_ghost l.facts) (filter (kept_is_ghost l.facts) (take l.id-index l.refs)))
