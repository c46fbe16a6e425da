-- Lines that print a tree, and are no more than its nodes, are its lines.
use Rattle.std.proofs.Common.{◌≡◌, ◌+◌, ◌≤◌, ℕ, zero, suc, List, [], ◌∷◌, ◌++◌, length, Result, Ok, Err, IfOk, refl, ◌∙◌, ap, arith, length-append}
use Rattle.thread_tree.specs.Trees.{Node, PrintsNodes, nothing, node, line_of, nodes, roots, under}
use Rattle.thread_tree.specs.Laid.{lines_down, tree_lines}
use Rattle.thread_tree.specs.declared.twigs.Twig.{Twig}
use Rattle.thread_tree.specs.declared.lines.Line.{Line}

laid-down : (twigs : List Twig) (levels depth : ℕ) (ns : List Node) (lines : List Line) → PrintsNodes twigs depth ns lines → length lines ≤ levels → lines ≡ lines_down levels twigs depth ns
laid-down twigs zero depth [] lines nothing few = refl
laid-down twigs (suc levels) depth [] lines nothing few = refl
laid-down twigs zero depth (n ∷ ns) lines (node own rest is below after) few =
    absurd (let long : length lines ≡ suc (length (own ++ rest)) = ap length is in omega (arith, long, few))
laid-down twigs (suc levels) depth (n ∷ ns) lines (node own rest is below after) few =
    let long : length lines ≡ suc (length (own ++ rest)) = ap length is in
    let parts : length (own ++ rest) ≡ length own + length rest = length-append own rest in
    let first : own ≡ lines_down levels twigs (suc depth) (under twigs n) = laid-down twigs levels (suc depth) (under twigs n) own below (omega (arith, long, parts, few)) in
    let last : rest ≡ lines_down (suc levels) twigs depth ns = laid-down twigs (suc levels) depth ns rest after (omega (arith, long, parts, few)) in
    is
    ∙ ap (λ (ls : List Line). line_of twigs depth n ∷ (ls ++ rest)) first
    ∙ ap (λ (ls : List Line). line_of twigs depth n ∷ (lines_down levels twigs (suc depth) (under twigs n) ++ ls)) last

pub laid : (twigs : List Twig) (lines : List Line) → PrintsNodes twigs 0 (roots twigs) lines → length lines ≤ length (nodes twigs) → lines ≡ tree_lines twigs
unfolding tree_lines
laid twigs lines prints few = laid-down twigs (length (nodes twigs)) 0 (roots twigs) lines prints few

-- What holds of a result by two facts of it.
pub by-both : {T E : Type 0} (r : Result T E) (P Q R : T → Type 0) → ((x : T) → P x → Q x → R x) → IfOk r P → IfOk r Q → IfOk r R
by-both (Ok x) P Q R give p q = give x p q
by-both (Err e) P Q R give p q = tt
