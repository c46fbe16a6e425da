-- The index of nodes by their ids, and what each stands under.
use Rattle.std.proofs.Common.{◌≡◌, ◌+◌, ◌<◌, ℕ, zero, suc, Bool, true, false, List, [], ◌∷◌, length, map, get_or, Option, Some, None, BTreeMap, if◌then◌else◌, bytes_eq, refl, sym, ◌∙◌, ap, subst, inl, inr, arith}
use Rattle.std.specs.Option.{option_map}
use Rattle.std.specs.Global.{Vec}
use Rattle.std.proofs.lemmas.Bool.{cases_Bool, cases_eq}
use Rattle.std.proofs.lemmas.List.{length-map}
use Rattle.std.proofs.lemmas.Slice.Eq.{bytes_eq-Decides}
use Rattle.thread_model.proofs.Entries.{none-some, some-same}
use Rattle.thread_tree.specs.Trees.{Node}
use Rattle.thread_tree.specs.Facts.{at_id, kept_up}
use Rattle.thread_tree.specs.Nodes.{AreClosed, AreUps, HaveNodeIds, IsNodeIndex, id_at, index_bound, jump_at, node_in, nodes_in}
use Rattle.thread_tree.specs.declared.facts.Facts.{Facts}

-- The index of the first so many nodes.
pub record IsIndexSoFar (ns : List Node) (index : BTreeMap (Vec ℕ) ℕ) (n : ℕ) : Type 0 where
  pub found : (q : List ℕ) (j : ℕ) → at_id index q ≡ Some j → (j < n) × (id_at ns j ≡ q)
  pub here : (j : ℕ) → j < n → at_id index (id_at ns j) ≡ Some j

none-below : (i : ℕ) → i < 0 → ⊥
none-below i low = omega arith

index-then : (i : ℕ) (t : Bool) (old new : Option ℕ) → t ≡ true → new ≡ (if t then Some i else old) → new ≡ Some i
index-then i true old new t e = e
index-then i false old new t e = absurd (let no : false ≡ true = t in cc)

index-else : (i : ℕ) (t : Bool) (old new : Option ℕ) → t ≡ false → new ≡ (if t then Some i else old) → new ≡ old
index-else i true old new t e = absurd (let no : true ≡ false = t in cc)
index-else i false old new t e = e

eq-false : (a b : List ℕ) → (a ≡ b → ⊥) → bytes_eq a b ≡ false
eq-false a b other = elim (cases_Bool (bytes_eq a b)) [ inl t ↦ absurd (other ((bytes_eq-Decides a b).0 t)) | inr f ↦ f ]

pub index-more : (ns : List Node) (old new : BTreeMap (Vec ℕ) ℕ) (i : ℕ) → HaveNodeIds ns → i < length ns → IsIndexSoFar ns old i → ((q : List ℕ) → at_id new q ≡ (if bytes_eq q (id_at ns i) then Some i else at_id old q)) → IsIndexSoFar ns new (i + 1)
index-more ns old new i ids inside is puts = record {
  found = λ q j e. elim (cases_Bool (bytes_eq q (id_at ns i))) [
    | inl t ↦
        let own : i ≡ j = some-same i j (sym (index-then i (bytes_eq q (id_at ns i)) (at_id old q) (at_id new q) t (puts q)) ∙ e) in
        (next-below i j own, ap (id_at ns) (sym own) ∙ sym ((bytes_eq-Decides q (id_at ns i)).0 t))
    | inr f ↦
        let r = is.found q j (sym (index-else i (bytes_eq q (id_at ns i)) (at_id old q) (at_id new q) f (puts q)) ∙ e) in
        (next-above i j r.0, r.1)
  ];
  here = λ j low. elim (cases_eq j i) [
    | inl e ↦
        let t : bytes_eq (id_at ns j) (id_at ns i) ≡ true = (bytes_eq-Decides (id_at ns j) (id_at ns i)).1 (ap (id_at ns) e) in
        index-then i (bytes_eq (id_at ns j) (id_at ns i)) (at_id old (id_at ns j)) (at_id new (id_at ns j)) t (puts (id_at ns j)) ∙ ap Some (sym e)
    | inr other ↦
        let below : j < i = lower j i low other in
        let f : bytes_eq (id_at ns j) (id_at ns i) ≡ false = eq-false (id_at ns j) (id_at ns i) (λ e. other (ids j i (inside-too i j (length ns) below inside) inside e)) in
        index-else i (bytes_eq (id_at ns j) (id_at ns i)) (at_id old (id_at ns j)) (at_id new (id_at ns j)) f (puts (id_at ns j)) ∙ is.here j below
  ];
}
  where
    lower : (j i : ℕ) → j < i + 1 → (j ≡ i → ⊥) → j < i
    lower j i low other = omega arith

    next-below : (i j : ℕ) → i ≡ j → j < i + 1
    next-below i j own = omega arith

    next-above : (i j : ℕ) → j < i → j < i + 1
    next-above i j low = omega arith

    inside-too : (i j n : ℕ) → j < i → i < n → j < n
    inside-too i j n low high = omega arith

pub index-all : (ns : List Node) (index : BTreeMap (Vec ℕ) ℕ) (n : ℕ) → n ≡ length ns → IsIndexSoFar ns index n → IsNodeIndex ns index
index-all ns index n all is = record {
  found = λ q j e. let r = is.found q j e in (subst (λ m. j < m) all r.0, r.1);
  here = λ j low. is.here j (subst (λ m. j < m) (sym all) low);
}

lower-suc : (i n : ℕ) → suc i < suc n → i < n
lower-suc i n low = omega arith

-- The id of the node at an index is that of the node as the code has it.
id-in : (nodes : List (ℕ × ℕ × Vec ℕ)) (i : ℕ) (d : ℕ × ℕ × Vec ℕ) → i < length nodes → id_at (nodes_in nodes) i ≡ (get_or nodes i d).2.items
id-in [] i d low = absurd (none-below i low)
id-in (n ∷ nodes) zero d low = refl
id-in (n ∷ nodes) (suc i) d low = id-in nodes i d (lower-suc i (length nodes) low)

pub index-put : (nodes : List (ℕ × ℕ × Vec ℕ)) (old new : BTreeMap (Vec ℕ) ℕ) (i : ℕ) (d : ℕ × ℕ × Vec ℕ) (id : List ℕ) → i < length nodes → id ≡ (get_or nodes i d).2.items → ((q : List ℕ) → at_id new q ≡ (if bytes_eq q id then Some i else at_id old q))
    → (q : List ℕ) → at_id new q ≡ (if bytes_eq q (id_at (nodes_in nodes) i) then Some i else at_id old q)
index-put nodes old new i d id low is puts = λ q.
    puts q ∙ ap (λ (b : List ℕ). if bytes_eq q b then Some i else at_id old q) (is ∙ sym (id-in nodes i d low))

-- What a node stands under, by an index.
up-at : (f : List ℕ → Option ℕ) (nodes : List (ℕ × ℕ × Vec ℕ)) (i : ℕ) → i < length (nodes_in nodes) → jump_at (map (λ (n : ℕ × ℕ × Vec ℕ). f n.2.items) nodes) i ≡ f (id_at (nodes_in nodes) i)
up-at f [] i low = absurd (none-below i low)
up-at f (n ∷ nodes) zero low = refl
up-at f (n ∷ nodes) (suc i) low = up-at f nodes i (lower-suc i (length (nodes_in nodes)) low)

module _ (facts : Facts) (nodes : List (ℕ × ℕ × Vec ℕ)) (index : BTreeMap (Vec ℕ) ℕ) (ups : List (Option ℕ)) (closed : AreClosed facts (nodes_in nodes)) (of : IsNodeIndex (nodes_in nodes) index)
    (are : ups ≡ map (λ (n : ℕ × ℕ × Vec ℕ). index_bound index (kept_up facts n.2.items)) nodes) where
  ups-size : length ups ≡ length (nodes_in nodes)
  ups-size = ap length are ∙ length-map nodes (λ (n : ℕ × ℕ × Vec ℕ). index_bound index (kept_up facts n.2.items)) ∙ sym (length-map nodes node_in)

  up-here : (i : ℕ) → i < length (nodes_in nodes) → jump_at ups i ≡ index_bound index (kept_up facts (id_at (nodes_in nodes) i))
  up-here i low = ap (λ (os : List (Option ℕ)). jump_at os i) are ∙ up-at (λ (id : List ℕ). index_bound index (kept_up facts id)) nodes i low

  -- What a name stands under has the index of that name.
  bound-names : (id : List ℕ) (found : Option (List ℕ)) → kept_up facts id ≡ found → option_map (id_at (nodes_in nodes)) (index_bound index found) ≡ found
  bound-names id None e = refl
  bound-names id (Some q) e =
      let r = closed id q e in
      let at : at_id index q ≡ Some r.0 = ap (at_id index) (sym r.2) ∙ of.here r.0 r.1 in
      ap (option_map (id_at (nodes_in nodes))) at ∙ ap Some r.2

  bound-inside : (found : Option (List ℕ)) (j : ℕ) → index_bound index found ≡ Some j → j < length (nodes_in nodes)
  bound-inside None j e = absurd (none-some j e)
  bound-inside (Some q) j e = (of.found q j e).0

  pub ups-are : AreUps (kept_up facts) (nodes_in nodes) ups
  ups-are = record {
    size = ups-size;
    inside = λ i j low e.
        let in_nodes : i < length (nodes_in nodes) = subst (λ m. i < m) ups-size low in
        subst (λ m. j < m) (sym ups-size) (bound-inside (kept_up facts (id_at (nodes_in nodes) i)) j (sym (up-here i in_nodes) ∙ e));
    each = λ i low. ap (option_map (id_at (nodes_in nodes))) (up-here i low) ∙ bound-names (id_at (nodes_in nodes) i) (kept_up facts (id_at (nodes_in nodes) i)) refl;
  }
