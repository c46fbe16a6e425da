-- The lines of a tree as one list.
use Rattle.std.specs.Prelude.{ℕ, zero, suc, List, [], ◌∷◌, length}
use Rattle.std.specs.List.{flat_map}
use Rattle.thread_tree.specs.Trees.{Node, line_of, nodes, roots, under}
use Rattle.thread_tree.specs.declared.twigs.Twig.{Twig}
use Rattle.thread_tree.specs.declared.lines.Line.{Line}

-- The lines of nodes of one depth, down to so many levels: each node before those under it, brothers in
-- order.
abbrev pub lines_down : ℕ → List Twig → ℕ → List Node → List Line
lines_down zero twigs depth ns = []
lines_down (suc levels) twigs depth ns =
    flat_map (λ (n : Node). line_of twigs depth n ∷ lines_down levels twigs (suc depth) (under twigs n)) ns

-- The lines of the tree of messages. It has no more levels than nodes.
unfoldable pub tree_lines : List Twig → List Line
tree_lines twigs = lines_down (length (nodes twigs)) twigs 0 (roots twigs)
