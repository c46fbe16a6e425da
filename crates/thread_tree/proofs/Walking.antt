-- A walk over a forest by a stack: what is written, with whatever the stack still prints.
use Rattle.std.proofs.Common.{◌≡◌, ◌⊎◌, ◌+◌, ◌≤◌, ◌<◌, ℕ, suc, List, [], ◌∷◌, ◌++◌, length, map, refl, sym, ◌∙◌, ap, subst, inl, inr, arith, append_assoc, append-nil, length-append}
use Rattle.std.proofs.lemmas.List.{length_push}
use Rattle.thread_model.specs.Members.{Among, Once}
use Rattle.thread_model.proofs.Members.{among-left, among-append, among-push, among-pushed, among-mapped}
use Rattle.thread_model.proofs.Numbers.{once-append, once-push, once-length}
use Rattle.thread_tree.specs.Trees.{below}
use Rattle.thread_tree.specs.Nodes.{IsForest, WalksNodes, ends, stacked, visits}
use Rattle.thread_tree.proofs.Pigeons.{among-below, length-below}

-- A stack from its top on.
abbrev pub backward : List (ℕ × ℕ) → List (ℕ × ℕ)
backward [] = []
backward (x ∷ xs) = backward xs ++ x ∷ []

pub backward-push : (xs : List (ℕ × ℕ)) (x : ℕ × ℕ) → backward (xs ++ x ∷ []) ≡ x ∷ backward xs
backward-push [] x = refl
backward-push (y ∷ ys) x = ap (λ (zs : List (ℕ × ℕ)). zs ++ y ∷ []) (backward-push ys x)

-- Indices of one depth.
abbrev pub at_depth : ℕ → List ℕ → List (ℕ × ℕ)
at_depth depth is = map (λ (i : ℕ). (depth, i)) is

pub backward-stacked : (xs : List (ℕ × ℕ)) (depth : ℕ) (is : List ℕ) → backward (xs ++ stacked depth is) ≡ at_depth depth is ++ backward xs
backward-stacked xs depth [] = ap backward (append-nil xs)
backward-stacked xs depth (i ∷ is) =
    ap backward (sym (append_assoc xs (stacked depth is) ((depth, i) ∷ [])))
    ∙ backward-push (xs ++ stacked depth is) (depth, i)
    ∙ ap (λ (zs : List (ℕ × ℕ)). (depth, i) ∷ zs) (backward-stacked xs depth is)

-- What a stack prints: each index with those under it.
pub data StackWalks (under : ℕ → List ℕ) : List (ℕ × ℕ) → List (ℕ × ℕ) → Type 0 where
  done : StackWalks under [] []
  next : {x : ℕ × ℕ} {stack all : List (ℕ × ℕ)} (own rest : List (ℕ × ℕ)) → all ≡ x ∷ (own ++ rest) → WalksNodes under (suc x.0) (under x.1) own → StackWalks under stack rest → StackWalks under (x ∷ stack) all

stack-next : (under : ℕ → List ℕ) (x : ℕ × ℕ) (stack all : List (ℕ × ℕ)) → StackWalks under (x ∷ stack) all → (own : List (ℕ × ℕ)) × (rest : List (ℕ × ℕ)) × (all ≡ x ∷ (own ++ rest)) × WalksNodes under (suc x.0) (under x.1) own × StackWalks under stack rest
stack-next under x stack all (next own rest e w s) = (own, rest, e, w, s)

-- Brothers on top of a stack are printed first.
brothers : (under : ℕ → List ℕ) (depth : ℕ) (is : List ℕ) (stack all : List (ℕ × ℕ)) → StackWalks under (at_depth depth is ++ stack) all → (own : List (ℕ × ℕ)) × (rest : List (ℕ × ℕ)) × (all ≡ own ++ rest) × WalksNodes under depth is own × StackWalks under stack rest
brothers under depth [] stack all s = ([], all, refl, ends, s)
brothers under depth (i ∷ is) stack all s =
    let a = stack-next under (depth, i) (at_depth depth is ++ stack) all s in
    let b = brothers under depth is stack a.1 a.4 in (
      (depth, i) ∷ (a.0 ++ b.0),
      b.1,
      a.2 ∙ ap (λ (zs : List (ℕ × ℕ)). (depth, i) ∷ (a.0 ++ zs)) b.2 ∙ ap (λ (zs : List (ℕ × ℕ)). (depth, i) ∷ zs) (sym (append_assoc a.0 b.0 b.1)),
      visits a.0 b.0 refl a.3 b.3,
      b.4,
    )

-- What is written, with whatever the stack prints, walks the roots.
pub record HasWalked (under : ℕ → List ℕ) (roots : List ℕ) (out stack : List (ℕ × ℕ)) : Type 0 where
  pub then : (rest : List (ℕ × ℕ)) → StackWalks under stack rest → WalksNodes under 0 roots (out ++ rest)

pub walked-begins : (under : ℕ → List ℕ) (roots : List ℕ) (stack : List (ℕ × ℕ)) → stack ≡ at_depth 0 roots → HasWalked under roots [] stack
walked-begins under roots stack is = record {
  then = λ rest s.
      let b = brothers under 0 roots [] rest (subst (λ (st : List (ℕ × ℕ)). StackWalks under st rest) (is ∙ sym (append-nil (at_depth 0 roots))) s) in
      let e : b.1 ≡ [] = stack-none b.1 b.4 in
      subst (WalksNodes under 0 roots) (sym (b.2 ∙ ap (λ (zs : List (ℕ × ℕ)). b.0 ++ zs) e ∙ append-nil b.0)) b.3;
}
  where
    stack-none : (all : List (ℕ × ℕ)) → StackWalks under [] all → all ≡ []
    stack-none all done = refl

pub walked-more : (under : ℕ → List ℕ) (roots : List ℕ) (out old stack new : List (ℕ × ℕ)) (depth i : ℕ) → HasWalked under roots out old → old ≡ (depth, i) ∷ stack → new ≡ at_depth (depth + 1) (under i) ++ stack → HasWalked under roots (out ++ (depth, i) ∷ []) new
walked-more under roots out old stack new depth i has popped pushed = record {
  then = λ rest s.
      let one : new ≡ at_depth (suc depth) (under i) ++ stack = pushed ∙ ap (λ d. at_depth d (under i) ++ stack) (step depth) in
      let b = brothers under (suc depth) (under i) stack rest (subst (λ (st : List (ℕ × ℕ)). StackWalks under st rest) one s) in
      let top : StackWalks under ((depth, i) ∷ stack) ((depth, i) ∷ rest) = next b.0 b.1 (ap (λ (zs : List (ℕ × ℕ)). (depth, i) ∷ zs) b.2) b.3 b.4 in
      subst (WalksNodes under 0 roots) (sym (append_assoc out ((depth, i) ∷ []) rest))
      (has.then ((depth, i) ∷ rest) (subst (λ (st : List (ℕ × ℕ)). StackWalks under st ((depth, i) ∷ rest)) (sym popped) top));
}
  where
    step : (d : ℕ) → d + 1 ≡ suc d
    step d = omega arith

pub walked-ends : (under : ℕ → List ℕ) (roots : List ℕ) (out stack : List (ℕ × ℕ)) → HasWalked under roots out stack → stack ≡ [] → WalksNodes under 0 roots out
walked-ends under roots out stack has empty =
    subst (WalksNodes under 0 roots) (append-nil out) (has.then [] (subst (λ (st : List (ℕ × ℕ)). StackWalks under st []) (sym empty) done))

-- What a walk has met: each index once, within the bound, and none deeper than the walk is long.
pub record Meets (under : ℕ → List ℕ) (roots : List ℕ) (bound : ℕ) (out waiting : List ℕ) : Type 0 where
  pub once_out : Once out
  pub once_waiting : Once waiting
  pub apart : (i : ℕ) → Among out i → Among waiting i → ⊥
  pub small : (i : ℕ) → Among out i ⊎ Among waiting i → i < bound
  pub from : (i : ℕ) → Among out i ⊎ Among waiting i → Among roots i ⊎ ((p : ℕ) × Among out p × Among (under p) i)

pub meets-begins : (under : ℕ → List ℕ) (roots : List ℕ) (bound : ℕ) → IsForest under roots bound → Meets under roots bound [] roots
meets-begins under roots bound is = record {
  once_out = tt;
  once_waiting = is.roots_once;
  apart = λ i none h. none;
  small = λ i h. elim h [ inl none ↦ absurd none | inr r ↦ is.roots_below i r ];
  from = λ i h. elim h [ inl none ↦ absurd none | inr r ↦ inl r ];
}

-- There are no more than the bound.
pub meets-count : (under : ℕ → List ℕ) (roots : List ℕ) (bound : ℕ) (out waiting : List ℕ) → Meets under roots bound out waiting → length out + length waiting ≤ bound
meets-count under roots bound out waiting is =
    let once : Once (out ++ waiting) = once-append out waiting is.once_out is.once_waiting is.apart in
    let le : length (out ++ waiting) ≤ length (below bound) = once-length (out ++ waiting) (below bound) once (λ i h. among-below bound i (is.small i (among-append out waiting i h))) in
    let sum : length (out ++ waiting) ≡ length out + length waiting = length-append out waiting in
    let len : length (below bound) ≡ bound = length-below bound in
    omega arith

-- One index more was written, and those under it wait.
module _ (under : ℕ → List ℕ) (roots : List ℕ) (bound : ℕ) (out waiting : List ℕ) (n : ℕ) (forest : IsForest under roots bound) (is : Meets under roots bound out (n ∷ waiting)) where
  fresh-child : (i : ℕ) → Among (under n) i → Among out i ⊎ Among (n ∷ waiting) i → ⊥
  fresh-child i c met = elim (is.from i met) [
    | inl r ↦ forest.no_root n i c r
    | inr p ↦ is.apart n (subst (Among out) (forest.one p.0 n i p.2 c) p.1) (inl refl)
  ]

  new-waiting : (i : ℕ) → Among (under n ++ waiting) i → Among (under n) i ⊎ Among waiting i
  new-waiting i h = among-append (under n) waiting i h

  pub meets-more : Meets under roots bound (out ++ n ∷ []) (under n ++ waiting)
  meets-more = record {
    once_out = once-push out n is.once_out (λ h. is.apart n h (inl refl));
    once_waiting = once-append (under n) waiting (forest.once n) is.once_waiting.1 (λ i c w. fresh-child i c (inr (inr w)));
    apart = λ i o w. elim (among-push out n i o) [
      | inl a ↦ elim (new-waiting i w) [ inl c ↦ fresh-child i c (inl a) | inr b ↦ is.apart i a (inr b) ]
      | inr e ↦ elim (new-waiting i w) [
        | inl c ↦ fresh-child i c (inr (inl e))
        | inr b ↦ is.once_waiting.0 (subst (Among waiting) e b)
      ]
    ];
    small = λ i h. elim h [
      | inl o ↦ elim (among-push out n i o) [ inl a ↦ is.small i (inl a) | inr e ↦ is.small i (inr (inl e)) ]
      | inr w ↦ elim (new-waiting i w) [ inl c ↦ forest.below n i c | inr b ↦ is.small i (inr (inr b)) ]
    ];
    from = λ i h. elim h [
      | inl o ↦ elim (among-push out n i o) [ inl a ↦ lift i (is.from i (inl a)) | inr e ↦ lift i (is.from i (inr (inl e))) ]
      | inr w ↦ elim (new-waiting i w) [
        | inl c ↦ inr (n, among-pushed out n, c)
        | inr b ↦ lift i (is.from i (inr (inr b)))
      ]
    ];
  }
    where
      lift : (i : ℕ) → Among roots i ⊎ ((p : ℕ) × Among out p × Among (under p) i) → Among roots i ⊎ ((p : ℕ) × Among (out ++ n ∷ []) p × Among (under p) i)
      lift i (inl r) = inl r
      lift i (inr p) = inr (p.0, among-left out (n ∷ []) p.0 p.1, p.2)

-- The indices of lines.
abbrev pub indices : List (ℕ × ℕ) → List ℕ
indices xs = map (λ (x : ℕ × ℕ). x.1) xs

pub indices-append : (xs ys : List (ℕ × ℕ)) → indices (xs ++ ys) ≡ indices xs ++ indices ys
indices-append [] ys = refl
indices-append (x ∷ xs) ys = ap (λ (ns : List ℕ). x.1 ∷ ns) (indices-append xs ys)

pub indices-depth : (depth : ℕ) (is : List ℕ) → indices (at_depth depth is) ≡ is
indices-depth depth [] = refl
indices-depth depth (i ∷ is) = ap (λ (ns : List ℕ). i ∷ ns) (indices-depth depth is)

-- No waiting index is deeper than the walk is long.
pub record IsShallow (out stack : List (ℕ × ℕ)) : Type 0 where
  pub deep : (x : ℕ × ℕ) → Among stack x → x.0 ≤ length out

pub shallow-begins : (roots : List ℕ) (stack : List (ℕ × ℕ)) → stack ≡ at_depth 0 roots → IsShallow [] stack
shallow-begins roots stack is = record {
  deep = λ x h.
      let r = among-mapped (λ (i : ℕ). (0, i)) roots x (subst (λ (st : List (ℕ × ℕ)). Among st x) is h) in
      let e : 0 ≡ x.0 = ap (λ (y : ℕ × ℕ). y.0) r.2 in
      omega arith;
}

pub shallow-more : (out old stack new : List (ℕ × ℕ)) (depth i : ℕ) (is : List ℕ) → IsShallow out old → old ≡ (depth, i) ∷ stack → new ≡ at_depth (depth + 1) is ++ stack → IsShallow (out ++ (depth, i) ∷ []) new
shallow-more out old stack new depth i is are popped pushed = record {
  deep = λ x h.
      let len : length (out ++ (depth, i) ∷ []) ≡ length out + 1 = length_push out (depth, i) in
      elim (among-append (at_depth (depth + 1) is) stack x (subst (λ (st : List (ℕ × ℕ)). Among st x) pushed h)) [
        | inl a ↦
            let r = among-mapped (λ (j : ℕ). (depth + 1, j)) is x a in
            let e : depth + 1 ≡ x.0 = ap (λ (y : ℕ × ℕ). y.0) r.2 in
            let top : depth ≤ length out = are.deep (depth, i) (subst (λ (st : List (ℕ × ℕ)). Among st (depth, i)) (sym popped) (inl refl)) in
            omega arith
        | inr b ↦
            let le : x.0 ≤ length out = are.deep x (subst (λ (st : List (ℕ × ℕ)). Among st x) (sym popped) (inr b)) in
            omega arith
      ];
}
