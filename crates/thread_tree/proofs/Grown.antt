-- A tree from what is kept: the forest of its indices, and what a walk over it prints.
use Rattle.std.proofs.Common.{◌≡◌, ◌≤◌, ◌<◌, ℕ, Bool, List, [], length, map, filter, Option, sym, ◌∙◌, ap, subst}
use Rattle.std.specs.Global.{Vec}
use Rattle.std.proofs.lemmas.List.{length-map}
use Rattle.thread_model.specs.Members.{Among}
use Rattle.thread_tree.specs.Trees.{Node, PrintsNodes, nodes, roots, under, up}
use Rattle.thread_tree.specs.Facts.{AreFacts, kept_up}
use Rattle.thread_tree.specs.Nodes.{AreRoots, AreUnder, AreUps, HaveNodeIds, IsForest, WalksNodes, count_up, flag_at, id_at, is_under, items_of, kept_line, node_at, node_in, nodes_in, under_at}
use Rattle.thread_tree.specs.declared.twigs.Twig.{Twig}
use Rattle.thread_tree.specs.declared.lines.Line.{Line}
use Rattle.thread_tree.specs.declared.facts.Facts.{Facts}
use Rattle.thread_tree.proofs.Doubling.{get-past}
use Rattle.thread_tree.proofs.Kept.{kept-up}
use Rattle.thread_tree.proofs.Unders.{forest}
use Rattle.thread_tree.proofs.Ties.{kept-lines, root-tie, roots-map, under-map, under-tie, walk-below, walk-prints}

module _ (twigs : List Twig) (facts : Facts) (list : List (ℕ × ℕ × Vec ℕ)) (ups : List (Option ℕ)) (flags : List Bool) (lists : List (Vec ℕ))
    (are : AreFacts twigs facts) (is : nodes_in list ≡ nodes twigs) (ids : HaveNodeIds (nodes_in list)) (tops : AreUps (kept_up facts) (nodes_in list) ups) (marks : AreRoots ups flags) (unders : AreUnder ups flags lists (length ups)) where
  abbrev ns : List Node
  ns = nodes_in list

  abbrev first : List ℕ
  first = filter (flag_at flags) (count_up (length flags))

  past-lists : (p : ℕ) → length lists ≤ p → under_at lists p ≡ []
  past-lists p past = ap items_of (get-past lists p past)

  pub tree-forest : IsForest (under_at lists) first (length lists)
  tree-forest = subst (λ n. IsForest (under_at lists) (filter (flag_at flags) (count_up n)) (length lists)) (sym marks.size) (forest ups flags lists unders past-lists)

  -- All lists are as long as the nodes.
  pub lists-size : length lists ≡ length ns
  lists-size = unders.size ∙ tops.size

  flags-size : length flags ≡ length ns
  flags-size = marks.size ∙ tops.size

  pub walk-inside : (walked : List (ℕ × ℕ)) → WalksNodes (under_at lists) 0 first walked → (x : ℕ × ℕ) → Among walked x → x.1 < length list
  walk-inside walked w x h =
      subst (λ n. x.1 < n) (lists-size ∙ length-map list node_in)
      (walk-below (under_at lists) (length lists) tree-forest.below w tree-forest.roots_below x h)

  own-ups : AreUps (up twigs) ns ups
  own-ups = record {
    size = tops.size;
    inside = tops.inside;
    each = λ i low. tops.each i low ∙ kept-up twigs facts are (id_at ns i);
  }

  under-list : (p : ℕ) → p < length ns → under twigs (node_at ns p) ≡ map (node_at ns) (under_at lists p)
  under-list p low =
      under-map twigs ns ups flags p is (λ i inside. under-tie twigs ns ups flags is ids own-ups marks p i low inside)
      ∙ ap (map (node_at ns)) (
      ap (λ n. filter (is_under ups flags p) (count_up n)) (sym tops.size)
      ∙ sym (unders.each p (subst (λ n. p < n) (sym tops.size) low)))

  first-roots : roots twigs ≡ map (node_at ns) first
  first-roots =
      roots-map twigs ns flags is (λ i inside. root-tie twigs ns ups flags is ids own-ups marks i inside)
      ∙ ap (λ n. map (node_at ns) (filter (flag_at flags) (count_up n))) (sym flags-size)

  pub tree-prints : (walked : List (ℕ × ℕ)) → WalksNodes (under_at lists) 0 first walked → (lines : List Line) → lines ≡ map (λ (x : ℕ × ℕ). kept_line facts x.0 (node_at ns x.1)) walked → PrintsNodes twigs 0 (roots twigs) lines
  tree-prints walked w lines printed =
      subst (λ (ms : List Node). PrintsNodes twigs 0 ms lines) (sym first-roots)
      (subst (PrintsNodes twigs 0 (map (node_at ns) first)) (sym (printed ∙ kept-lines twigs facts are ns walked))
      (walk-prints twigs ns (under_at lists) (λ p i h. subst (λ n. i < n) lists-size (tree-forest.below p i h)) under-list w
      (λ i h. subst (λ n. i < n) lists-size (tree-forest.roots_below i h))))
