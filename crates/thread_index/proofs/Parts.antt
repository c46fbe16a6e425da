-- A walk over pending rows: the part that it has reached.
use Rattle.std.proofs.Common.{◌≡◌, ◌⊎◌, ◌+◌, ◌≤◌, ◌<◌, ℕ, List, [], ◌∷◌, length, take, get_or, refl, sym, ◌∙◌, ap, subst, inl, inr, arith, length-append}
use Rattle.std.proofs.lemmas.List.{take-append-le, get_or_append_left}
use Rattle.thread_model.specs.Members.{Among, Once}
use Rattle.thread_model.specs.Threads.{KeyedRow, Linked}
use Rattle.thread_model.proofs.Members.{among-left, among-right, among-append, get-among, take-cases}
use Rattle.thread_model.proofs.Numbers.{once-append, once-single}
use Rattle.thread_model.proofs.Rounds.{linked-key, linked-trans}
use Rattle.thread_index.specs.Tables.{AreHolders}
use Rattle.thread_index.specs.Taking.{IsThreadPart, MovesPending, SharesKey}

alone : (part : List ℕ) (seed : ℕ) → part ≡ seed ∷ [] → (x : ℕ) → Among part x → (x ≡ seed) ⊎ ⊥
alone part seed is x h = subst (λ ns. Among ns x) is h

-- The part of the first row alone.
pub part-begins : (rows : List KeyedRow) (holders : List ℕ → List ℕ) (pending part : List ℕ) (seed : ℕ) → AreHolders rows holders → Once pending → (Among pending seed → ⊥) → part ≡ seed ∷ [] → IsThreadPart rows holders pending pending seed part 0
part-begins rows holders pending part seed are once fresh is = record {
  seeded = subst (λ ns. Among ns seed) (sym is) (inl refl);
  from = λ x h. elim (alone part seed is x h) [ inl e ↦ inl e | inr none ↦ absurd none ];
  less = λ x h. h;
  split = λ x h. inl h;
  apart = λ x h in_x. elim (alone part seed is x in_x) [ inl e ↦ fresh (subst (Among pending) e h) | inr none ↦ none ];
  closed = λ n x none. absurd none;
  joined = λ r s in_r in_part in_s own. elim (alone part seed is r.0 in_part) [
    | inl e ↦ inl (once-single (λ (y : KeyedRow). y.0) rows are.distinct r s in_r in_s (e ∙ sym own))
    | inr none ↦ absurd none
  ];
  size = let e : length part ≡ 1 = ap length is in omega arith;
  once = subst Once (sym is) ((λ none. none), tt);
  once_pending = once;
}

-- One row more was visited.
module _ (rows : List KeyedRow) (holders : List ℕ → List ℕ) (pending mid pending' : List ℕ) (seed : ℕ) (part part' : List ℕ) (i n d : ℕ) (are : AreHolders rows holders) (in' : i < length part) (here : n ≡ get_or part i d) (is : IsThreadPart rows holders pending mid seed part i) (moves : MovesPending (SharesKey rows holders n) mid pending' part part') where
  part-cases : (x : ℕ) → Among part' x → Among part x ⊎ Among moves.xs x
  part-cases x h = among-append part moves.xs x (subst (λ ns. Among ns x) moves.is h)

  part-old : (x : ℕ) → Among part x → Among part' x
  part-old x h = subst (λ ns. Among ns x) (sym moves.is) (among-left part moves.xs x h)

  part-new : (x : ℕ) → Among moves.xs x → Among part' x
  part-new x h = subst (λ ns. Among ns x) (sym moves.is) (among-right part moves.xs x h)

  -- Among the first so many numbers and one more.
  front-cases : (m : ℕ) → Among (take (i + 1) part') m → Among (take i part) m ⊎ (m ≡ n)
  front-cases m h =
      let longer : length part' ≡ length part + length moves.xs = ap length moves.is ∙ length-append part moves.xs in
      let inside : i < length part' = omega arith in
      let below : i ≤ length part = omega arith in
      let first : take i part' ≡ take i part = ap (take i) moves.is ∙ take-append-le i part moves.xs below in
      let last : get_or part' i d ≡ get_or part i d = ap (λ (ns : List ℕ). get_or ns i d) moves.is ∙ get_or_append_left part moves.xs d i in' in
      elim (take-cases part' i d m inside h) [
        | inl a ↦ inl (subst (λ ns. Among ns m) first a)
        | inr e ↦ inr (e ∙ last ∙ sym here)
      ]

  closed-more : (m x : ℕ) → Among (take (i + 1) part') m → SharesKey rows holders m x → Among pending' x → ⊥
  closed-more m x h shares p = elim (front-cases m h) [
    | inl a ↦ is.closed m x a shares (moves.less x p)
    | inr e ↦ moves.gone x (subst (λ k. SharesKey rows holders k x) e shares) p
  ]

  in-visited : Among part n
  in-visited = subst (Among part) (sym here) (get-among part i d in')

  -- A moved row is linked to the one that was visited, so to the first one.
  joined-new : (r s : KeyedRow) → Among rows r → Among moves.xs r.0 → Among rows s → s.0 ≡ seed → Linked rows r s
  joined-new r s in_r in_xs in_s own =
      let x = (moves.from r.0 in_xs).0 in
      let q = are.holds x.1 r.0 x.5 in
      let same : q.0 ≡ r = once-single (λ (y : KeyedRow). y.0) rows are.distinct q.0 r q.1 in_r q.2 in
      let to : Linked rows r x.0 = linked-key rows r x.0 x.1 (subst (λ (y : KeyedRow). Among y.1 x.1) same q.3) x.4 in
      let in_front : Among part x.0.0 = subst (Among part) (sym x.3) in-visited in
      elim (is.joined x.0 s x.2 in_front in_s own) [
        | inl e ↦ subst (Linked rows r) e to
        | inr l ↦ linked-trans rows r x.0 s x.2 to l
      ]

  joined-more : (r s : KeyedRow) → Among rows r → Among part' r.0 → Among rows s → s.0 ≡ seed → (r ≡ s) ⊎ Linked rows r s
  joined-more r s in_r in_part in_s own = elim (part-cases r.0 in_part) [
    | inl a ↦ is.joined r s in_r a in_s own
    | inr b ↦ inr (joined-new r s in_r b in_s own)
  ]

  pub part-more : IsThreadPart rows holders pending pending' seed part' (i + 1)
  part-more = record {
    seeded = part-old seed is.seeded;
    from = λ x h. elim (part-cases x h) [ inl a ↦ is.from x a | inr b ↦ inr (is.less x (moves.from x b).1) ];
    less = λ x h. is.less x (moves.less x h);
    split = λ x h. elim (is.split x h) [
      | inl m ↦ elim (moves.split x m) [ inl p ↦ inl p | inr b ↦ inr (part-new x b) ]
      | inr a ↦ inr (part-old x a)
    ];
    apart = λ x h in_x. elim (part-cases x in_x) [
      | inl a ↦ is.apart x (moves.less x h) a
      | inr b ↦ moves.apart x h b
    ];
    closed = closed-more;
    joined = joined-more;
    size = let s : length part + length mid ≡ 1 + length pending = is.size in let t = moves.size in omega arith;
    once = subst Once (sym moves.is) (once-append part moves.xs is.once moves.once_xs (λ x a b. is.apart x (moves.from x b).1 a));
    once_pending = moves.once;
  }
