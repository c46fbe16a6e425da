use Rattle.std.proofs.Common.{◌≡◌, ◌≤◌, ℕ, ◌<◌, length, Bool, List, arith}
use Rattle.thread_tree.specs.Trees.{PrintsNodes, nodes, roots}
use Rattle.thread_tree.specs.Laid.{tree_lines}
use Rattle.thread_model.specs.Members.{Among}
use Rattle.thread_tree.specs.declared.twigs.Twig.{Twig}
use Rattle.std.proofs.Common.{subst, sym, ap, ◌∙◌, length, filter, map, ℕ, List, Option, Bool}
use Rattle.std.specs.Global.{Vec}
use Rattle.std.proofs.lemmas.Result.{IfOk-weaker}
use Rattle.std.proofs.lemmas.List.{length-map}
use Rattle.thread_tree.specs.Facts.{kept_up}
use Rattle.thread_tree.specs.Nodes.{AreClosed, AreRoots, AreUnder, AreUps, IsForest, WalksNodes, count_up, flag_at, kept_line, node_at, nodes_in, under_at}
use Rattle.thread_tree.proofs.Ordered.{closed-ups}
use Rattle.thread_tree.proofs.Grown.{lists-size, tree-forest, tree-prints, walk-inside}
use Rattle.thread_tree.proofs.Laying.{by-both, laid}
use Rattle.thread_tree.proofs.twigs.Twigs.tree.Goals as goal

-- src/twigs.rt:102:19
pub ups_of-requires-clause-closed : goal.ups_of-requires-clause-closed
ups_of-requires-clause-closed c =
    let facts = c.in_ok-facts.facts in
    subst (λ (ns : List (ℕ × ℕ × Vec ℕ)). AreClosed facts (nodes_in ns)) (sym c.as_slice.ensures.value)
    (closed-ups c.as_slice-twigs.result.now facts (nodes_in c.in_ok-nodes.nodes.items) c.in_ok-facts.ensures c.in_ok-nodes.ensures.nodes)

-- src/twigs.rt:106:22
pub preorder-requires : goal.preorder-requires
preorder-requires c =
    let facts = c.in_ok-facts.facts in
    let list = c.in_ok-nodes.nodes.items in
    let ups = c.in_ok-ups.ups.items in
    let flags = c.in_ok-flags.flags.items in
    let lists = c.in_ok-under.under.items in
    let us = c.as_slice-3.result.now in
    subst (λ (ls : List (Vec ℕ)). IsForest (under_at ls) c.as_slice-7.result.now (length ls)) (sym c.as_slice-6.ensures.value)
    (subst (λ (rs : List ℕ). IsForest (under_at lists) rs (length lists))
    (sym (c.as_slice-7.ensures.value ∙ c.in_ok-roots.ensures ∙ ap (λ (fs : List Bool). filter (flag_at fs) (count_up (length fs))) c.as_slice-5.ensures.value))
    (tree-forest c.as_slice-twigs.result.now facts list ups flags lists c.in_ok-facts.ensures c.in_ok-nodes.ensures.nodes c.in_ok-nodes.ensures.ids
    (subst (λ (ns : List (ℕ × ℕ × Vec ℕ)). AreUps (kept_up facts) (nodes_in ns) ups) c.as_slice.ensures.value c.in_ok-ups.ensures)
    (subst (λ (os : List (Option ℕ)). AreRoots os flags) c.as_slice-2.ensures.value c.in_ok-flags.ensures)
    (subst (λ (os : List (Option ℕ)). AreUnder os flags lists (length os)) c.as_slice-3.ensures.value
    (subst (λ (fs : List Bool). AreUnder us fs lists (length us)) c.as_slice-4.ensures.value c.in_ok-under.ensures))))

-- src/twigs.rt:107:9
pub lines_of-requires : goal.lines_of-requires
lines_of-requires c =
    let facts = c.in_ok-facts.facts in
    let list = c.in_ok-nodes.nodes.items in
    let ups = c.in_ok-ups.ups.items in
    let flags = c.in_ok-flags.flags.items in
    let lists = c.in_ok-under.under.items in
    let us = c.as_slice-3.result.now in
    let walked = c.in_ok-walked.walked.items in
    let first = c.as_slice-7.ensures.value ∙ c.in_ok-roots.ensures ∙ ap (λ (fs : List Bool). filter (flag_at fs) (count_up (length fs))) c.as_slice-5.ensures.value in
    λ x h. subst (λ (ns : List (ℕ × ℕ × Vec ℕ)). x.1 < length ns) (sym c.as_slice-8.ensures.value)
    (walk-inside c.as_slice-twigs.result.now facts list ups flags lists c.in_ok-facts.ensures c.in_ok-nodes.ensures.nodes c.in_ok-nodes.ensures.ids
    (subst (λ (ns : List (ℕ × ℕ × Vec ℕ)). AreUps (kept_up facts) (nodes_in ns) ups) c.as_slice.ensures.value c.in_ok-ups.ensures)
    (subst (λ (os : List (Option ℕ)). AreRoots os flags) c.as_slice-2.ensures.value c.in_ok-flags.ensures)
    (subst (λ (os : List (Option ℕ)). AreUnder os flags lists (length os)) c.as_slice-3.ensures.value
    (subst (λ (fs : List Bool). AreUnder us fs lists (length us)) c.as_slice-4.ensures.value c.in_ok-under.ensures))
    walked
    (subst (λ (rs : List ℕ). WalksNodes (under_at lists) 0 rs walked) first
    (subst (λ (ls : List (Vec ℕ)). WalksNodes (under_at ls) 0 c.as_slice-7.result.now walked) c.as_slice-6.ensures.value c.in_ok-walked.ensures.walks))
    x (subst (λ (ws : List (ℕ × ℕ)). Among ws x) c.as_slice-9.ensures.value h))

-- src/twigs.rt:96:5
pub returns-clause-prints : goal.returns-clause-prints
returns-clause-prints c =
    let facts = c.in_ok-facts.facts in
    let list = c.in_ok-nodes.nodes.items in
    let ups = c.in_ok-ups.ups.items in
    let flags = c.in_ok-flags.flags.items in
    let lists = c.in_ok-under.under.items in
    let us = c.as_slice-3.result.now in
    let walked = c.in_ok-walked.walked.items in
    let first = c.as_slice-7.ensures.value ∙ c.in_ok-roots.ensures ∙ ap (λ (fs : List Bool). filter (flag_at fs) (count_up (length fs))) c.as_slice-5.ensures.value in
    IfOk-weaker c.lines_of.result _ _
    (λ lines e. subst (λ (ts : List Twig). PrintsNodes ts 0 (roots ts) lines) (c.as_slice-twigs.ensures.value ∙ c.self.view_is)
    (tree-prints c.as_slice-twigs.result.now facts list ups flags lists c.in_ok-facts.ensures c.in_ok-nodes.ensures.nodes c.in_ok-nodes.ensures.ids
    (subst (λ (ns : List (ℕ × ℕ × Vec ℕ)). AreUps (kept_up facts) (nodes_in ns) ups) c.as_slice.ensures.value c.in_ok-ups.ensures)
    (subst (λ (os : List (Option ℕ)). AreRoots os flags) c.as_slice-2.ensures.value c.in_ok-flags.ensures)
    (subst (λ (os : List (Option ℕ)). AreUnder os flags lists (length os)) c.as_slice-3.ensures.value
    (subst (λ (fs : List Bool). AreUnder us fs lists (length us)) c.as_slice-4.ensures.value c.in_ok-under.ensures))
    walked
    (subst (λ (rs : List ℕ). WalksNodes (under_at lists) 0 rs walked) first
    (subst (λ (ls : List (Vec ℕ)). WalksNodes (under_at ls) 0 c.as_slice-7.result.now walked) c.as_slice-6.ensures.value c.in_ok-walked.ensures.walks))
    lines
    (e ∙ ap (λ (ns : List (ℕ × ℕ × Vec ℕ)). map (λ (x : ℕ × ℕ). kept_line facts x.0 (node_at (nodes_in ns) x.1)) c.as_slice-9.result.now) c.as_slice-8.ensures.value
    ∙ ap (map (λ (x : ℕ × ℕ). kept_line facts x.0 (node_at (nodes_in list) x.1))) c.as_slice-9.ensures.value)))
    c.lines_of.ensures

-- The walk visits no more than the nodes.
pub returns-clause-laid : goal.returns-clause-laid
returns-clause-laid c =
    let facts = c.in_ok-facts.facts in
    let list = c.in_ok-nodes.nodes.items in
    let ups = c.in_ok-ups.ups.items in
    let flags = c.in_ok-flags.flags.items in
    let lists = c.in_ok-under.under.items in
    let us = c.as_slice-3.result.now in
    let twigs = c.as_slice-twigs.result.now in
    let sizes = lists-size twigs facts list ups flags lists c.in_ok-facts.ensures c.in_ok-nodes.ensures.nodes c.in_ok-nodes.ensures.ids
    (subst (λ (ns : List (ℕ × ℕ × Vec ℕ)). AreUps (kept_up facts) (nodes_in ns) ups) c.as_slice.ensures.value c.in_ok-ups.ensures)
    (subst (λ (os : List (Option ℕ)). AreRoots os flags) c.as_slice-2.ensures.value c.in_ok-flags.ensures)
    (subst (λ (os : List (Option ℕ)). AreUnder os flags lists (length os)) c.as_slice-3.ensures.value
    (subst (λ (fs : List Bool). AreUnder us fs lists (length us)) c.as_slice-4.ensures.value c.in_ok-under.ensures)) in
    let many : length c.as_slice-6.result.now ≡ length (nodes c.args.self.now) =
    ap length c.as_slice-6.ensures.value ∙ sizes ∙ ap length c.in_ok-nodes.ensures.nodes ∙ ap (λ (ts : List Twig). length (nodes ts)) (c.as_slice-twigs.ensures.value ∙ c.self.view_is) in
    let walked : length c.as_slice-9.result.now ≡ length c.in_ok-walked.walked.items = ap length c.as_slice-9.ensures.value in
    let few : length c.in_ok-walked.walked.items ≤ length c.as_slice-6.result.now = c.in_ok-walked.ensures.few in
    by-both c.lines_of.result (λ lines. PrintsNodes c.args.self.now 0 (roots c.args.self.now) lines) (λ lines. length lines ≤ length (nodes c.args.self.now)) (λ lines. lines ≡ tree_lines c.args.self.now)
    (λ lines prints short. laid c.args.self.now lines prints short)
    (returns-clause-prints c)
    (IfOk-weaker c.lines_of.result _ _ (λ lines e.
    let long : length lines ≡ length c.as_slice-9.result.now = ap length e ∙ length-map c.as_slice-9.result.now _ in
    let short : length lines ≤ length (nodes c.args.self.now) = omega (arith, long, walked, few, many) in
    short) c.lines_of.ensures)
