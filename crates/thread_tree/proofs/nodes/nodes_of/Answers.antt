use Rattle.std.proofs.Common.{◌≡◌, ℕ, map, List, []}
use Rattle.std.specs.List.{filter}
use Rattle.thread_tree.specs.Facts.{kept_ghost, kept_is_ghost}
use Rattle.thread_tree.specs.Nodes.{nodes_in}
use Rattle.thread_tree.specs.Trees.{live_node, nodes, put_nodes}
use Rattle.std.proofs.Common.{ap, ◌∙◌, subst, sym, flat_map, []}
use Rattle.std.proofs.lemmas.List.{take_all}
use Rattle.std.proofs.lemmas.Result.{IfOk-weaker}
use Rattle.std.specs.List.Sorted.{IsStrictlySortedBy}
use Rattle.thread_tree.specs.declared.twigs.Twig.{Twig}
use Rattle.thread_tree.proofs.Ordered.{flat-take, kept_ghosts, nodes-kept, own-node-ids, plain_cmp}
use Rattle.thread_tree.proofs.nodes.nodes_of.Goals as goal

-- src/nodes.rt:98:5
pub loop-twig-preserved : goal.loop-twig-preserved
loop-twig-preserved c =
    let facts = c.args.facts.now in
    let old = nodes_in c.loop-twig.nodes.keys in
    flat-take (kept_ghosts facts) c.args.twigs.now c.loop-twig.twig-index c.twig-item.result (put_nodes [] (map live_node c.args.twigs.now)) old (nodes_in c.put_ghosts.new.nodes.keys) c.loop-twig-test.true c.loop-twig.invariant
    (c.in_ok-put_ghosts.ensures
    ∙ ap (λ (refs : List (List ℕ)). put_nodes old (map (kept_ghost facts) (filter (kept_is_ghost facts) refs))) c.as_slice.ensures
    ∙ ap (λ (t : Twig). put_nodes old (kept_ghosts facts t)) c.twig-item.is)

-- src/nodes.rt:86:1
pub returns-clause-nodes : goal.returns-clause-nodes
returns-clause-nodes c =
    let twigs = c.args.twigs.now in
    let facts = c.args.facts.now in
    let all : nodes_in c.loop-twig.nodes.keys ≡ nodes twigs =
    c.loop-twig.invariant
    ∙ ap (λ (ts : List Twig). put_nodes (put_nodes [] (map live_node twigs)) (flat_map (kept_ghosts facts) ts)) (take_all c.loop-twig.twig-index twigs c.loop-twig-test.false)
    ∙ nodes-kept twigs facts c.requires.facts in
    IfOk-weaker c.listed.result _ _ (λ list e. ap nodes_in e ∙ all) c.listed.ensures

-- src/nodes.rt:86:1
pub returns-clause-ids : goal.returns-clause-ids
returns-clause-ids c =
    let twigs = c.args.twigs.now in
    let facts = c.args.facts.now in
    let all : nodes_in c.loop-twig.nodes.keys ≡ nodes twigs =
    c.loop-twig.invariant
    ∙ ap (λ (ts : List Twig). put_nodes (put_nodes [] (map live_node twigs)) (flat_map (kept_ghosts facts) ts)) (take_all c.loop-twig.twig-index twigs c.loop-twig-test.false)
    ∙ nodes-kept twigs facts c.requires.facts in
    IfOk-weaker c.listed.result _ _
    (λ list e. own-node-ids twigs c.requires.own list.items (subst (IsStrictlySortedBy plain_cmp) (sym e) c.len-count.ensures.ordered) (ap nodes_in e ∙ all))
    c.listed.ensures
