-- Steps by jumps: what comes again is on a loop.
use Rattle.std.proofs.Common.{◌≡◌, ◌⊎◌, ◌+◌, ◌-◌, ◌≤◌, ◌<◌, ℕ, zero, suc, List, length, map, Option, Some, None, refl, sym, ◌∙◌, ap, subst, inl, inr, arith, add-zero, add-suc}
use Rattle.std.proofs.lemmas.List.{length-map}
use Rattle.std.proofs.lemmas.Bool.{cases_lt}
use Rattle.thread_model.specs.Members.{Among, Once}
use Rattle.thread_model.proofs.Members.{among-mapped, cases_among}
use Rattle.thread_model.proofs.Numbers.{once-length}
use Rattle.thread_model.proofs.Entries.{none-some, some-same}
use Rattle.thread_tree.specs.Trees.{below}
use Rattle.thread_tree.specs.Nodes.{jump_at, step_by, far_by, StaysIn, OnLoop}

pub below-among : (m a : ℕ) → Among (below m) a → a < m
below-among zero a h = absurd h
below-among (suc m) a (inl is) = omega arith
below-among (suc m) a (inr h) = let lt : a < m = below-among m a h in omega arith

pub among-below : (m a : ℕ) → a < m → Among (below m) a
among-below zero a lt = absurd (omega arith)
among-below (suc m) a lt = elim (cases_lt a m) [
  | inl less ↦ inr (among-below m a less)
  | inr more ↦ inl (omega arith)
]

pub length-below : (m : ℕ) → length (below m) ≡ m
length-below zero = refl
length-below (suc m) = ap suc (length-below m)

-- No value comes twice, or two places have one value.
once-or-twice : (g : ℕ → ℕ) (m : ℕ) → Once (map g (below m)) ⊎ ((a : ℕ) × (d : ℕ) × (a + suc d < m) × (g a ≡ g (a + suc d)))
once-or-twice g zero = inl tt
once-or-twice g (suc m) = elim (cases_among (map g (below m)) (g m)) [
  | inl h ↦
      let r = among-mapped g (below m) (g m) h in
      let lt : r.0 < m = below-among m r.0 r.1 in
      let e : r.0 + suc (m - suc r.0) ≡ m = omega arith in
      inr (r.0, m - suc r.0, omega arith, r.2 ∙ sym (ap g e))
  | inr fresh ↦ elim (once-or-twice g m) [
    | inl once ↦ inl (fresh, once)
    | inr two ↦ inr (two.0, two.1, (let lt = two.2 in omega arith), two.3)
  ]
]

-- Of more values than numbers below a bound, two are the same.
pub pigeons : (g : ℕ → ℕ) (m bound : ℕ) → bound < m → ((k : ℕ) → k < m → g k < bound) → (a : ℕ) × (d : ℕ) × (a + suc d < m) × (g a ≡ g (a + suc d))
pigeons g m bound more small = elim (once-or-twice g m) [
  | inl once ↦
      let le : length (map g (below m)) ≤ length (below bound) = once-length (map g (below m)) (below bound) once (λ n h.
      let r = among-mapped g (below m) n h in
      among-below bound n (subst (λ x. x < bound) r.2 (small r.0 (below-among m r.0 r.1)))) in
      let one : length (map g (below m)) ≡ m = length-map (below m) g ∙ length-below m in
      let two : length (below bound) ≡ bound = length-below bound in
      absurd (omega arith)
  | inr two ↦ two
]

-- First so many steps, then so many more.
pub far-then : (jumps : List (Option ℕ)) (a n x : ℕ) → far_by jumps a n ≡ Some x → (b : ℕ) → far_by jumps (a + b) n ≡ far_by jumps b x
far-then jumps a n x e zero = ap (λ m. far_by jumps m n) (add-zero a) ∙ e
far-then jumps a n x e (suc b) = ap (λ m. far_by jumps m n) (add-suc a b) ∙ ap (step_by jumps) (far-then jumps a n x e b)

pub far-none : (jumps : List (Option ℕ)) (a n : ℕ) → far_by jumps a n ≡ None → (b : ℕ) → far_by jumps (a + b) n ≡ None
far-none jumps a n e zero = ap (λ m. far_by jumps m n) (add-zero a) ∙ e
far-none jumps a n e (suc b) = ap (λ m. far_by jumps m n) (add-suc a b) ∙ ap (step_by jumps) (far-none jumps a n e b)

step-from : (jumps : List (Option ℕ)) (from : Option ℕ) (x : ℕ) → step_by jumps from ≡ Some x → (y : ℕ) × (from ≡ Some y) × (jump_at jumps y ≡ Some x)
step-from jumps None x e = absurd (none-some x e)
step-from jumps (Some y) x e = (y, refl, e)

-- A way has each shorter one in it.
pub far-part : (jumps : List (Option ℕ)) (k d n x : ℕ) → far_by jumps (k + d) n ≡ Some x → (y : ℕ) × (far_by jumps k n ≡ Some y) × (far_by jumps d y ≡ Some x)
far-part jumps k zero n x e = (x, ap (λ m. far_by jumps m n) (sym (add-zero k)) ∙ e, refl)
far-part jumps k (suc d) n x e =
    let s = step-from jumps (far_by jumps (k + d) n) x (ap (λ m. far_by jumps m n) (sym (add-suc k d)) ∙ e) in
    let r = far-part jumps k d n s.0 s.1 in
    (r.0, r.1, ap (step_by jumps) r.2 ∙ s.2)

-- All that is led to lies within.
pub far-inside : (jumps : List (Option ℕ)) → StaysIn jumps → (k n x : ℕ) → n < length jumps → far_by jumps k n ≡ Some x → x < length jumps
far-inside jumps stays zero n x in' e = subst (λ m. m < length jumps) (some-same n x e) in'
far-inside jumps stays (suc k) n x in' e =
    let s = step-from jumps (far_by jumps k n) x e in
    stays s.0 x (far-inside jumps stays k n s.0 in' s.1) s.2

abbrev number_of : Option ℕ → ℕ
number_of None = 0
number_of (Some x) = x

-- Two ways of other lengths that lead to one place.
meets-twice : (jumps : List (Option ℕ)) → StaysIn jumps → (m n x : ℕ) → n < length jumps → length jumps < suc m → far_by jumps m n ≡ Some x
    → (y : ℕ) × (a : ℕ) × (d : ℕ) × (a + suc d ≤ m) × (far_by jumps a n ≡ Some y) × (far_by jumps (suc d) y ≡ Some y)
meets-twice jumps stays m n x in' more e =
    let two = pigeons (λ k. number_of (far_by jumps k n)) (suc m) (length jumps) more (λ k lt.
    let s : k + (m - k) ≡ m = omega arith in
    let r = far-part jumps k (m - k) n x (ap (λ q. far_by jumps q n) s ∙ e) in
    subst (λ o. number_of o < length jumps) (sym r.1) (far-inside jumps stays k n r.0 in' r.1)) in
    let lt = two.2 in
    let s : (two.0 + suc two.1) + (m - (two.0 + suc two.1)) ≡ m = omega arith in
    let r = far-part jumps (two.0 + suc two.1) (m - (two.0 + suc two.1)) n x (ap (λ q. far_by jumps q n) s ∙ e) in
    let p = far-part jumps two.0 (suc two.1) n r.0 r.1 in
    let same : p.0 ≡ r.0 = sym (ap number_of p.1) ∙ two.3 ∙ ap number_of r.1 in
    (p.0, two.0, two.1, omega arith, p.1, p.2 ∙ ap Some (sym same))

-- What a way from a loop leads to is on the loop.
pub loop-moves : (jumps : List (Option ℕ)) (p q x y : ℕ) → far_by jumps p x ≡ Some x → far_by jumps q x ≡ Some y → far_by jumps p y ≡ Some y
loop-moves jumps p q x y round way =
    let swap : q + p ≡ p + q = omega arith in
    sym (far-then jumps q x y way p) ∙ ap (λ m. far_by jumps m x) swap ∙ far-then jumps p x x round q ∙ way

-- Where as many steps lead as there are indices, a loop is.
pub far-loops : (jumps : List (Option ℕ)) → StaysIn jumps → (m n j : ℕ) → n < length jumps → length jumps ≤ m → far_by jumps m n ≡ Some j → OnLoop jumps j
far-loops jumps stays m n j in' more e =
    let t = meets-twice jumps stays m n j in' (omega arith) e in
    let le = t.3 in
    let s : t.1 + (m - t.1) ≡ m = omega arith in
    let rest : far_by jumps (m - t.1) t.0 ≡ Some j = sym (far-then jumps t.1 n t.0 t.4 (m - t.1)) ∙ ap (λ q. far_by jumps q n) s ∙ e in
    (t.2, loop-moves jumps (suc t.2) (m - t.1) t.0 j t.5 rest)

-- On a loop each index is led to by as many steps as one likes, from the loop.
pub loop-reached : (jumps : List (Option ℕ)) → StaysIn jumps → (m k j : ℕ) → j < length jumps → far_by jumps (suc k) j ≡ Some j
    → (i : ℕ) × (i < length jumps) × (far_by jumps m i ≡ Some j) × (far_by jumps (suc k) i ≡ Some i)
loop-reached jumps stays zero k j in' round = (j, in', refl, round)
loop-reached jumps stays (suc m) k j in' round =
    let r = loop-reached jumps stays m k j in' round in
    let one : suc k ≡ k + 1 = omega arith in
    let p = far-part jumps k 1 r.0 r.0 (ap (λ q. far_by jumps q r.0) (sym one) ∙ r.3) in
    let inside : p.0 < length jumps = far-inside jumps stays k r.0 p.0 r.1 p.1 in
    let e : suc m ≡ 1 + m = omega arith in
    (p.0, inside, ap (λ q. far_by jumps q p.0) e ∙ far-then jumps 1 p.0 r.0 p.2 m ∙ r.2, loop-moves jumps (suc k) k r.0 p.0 r.3 p.1)

-- Round a loop as often as one likes.
round-more : (jumps : List (Option ℕ)) (k j : ℕ) → far_by jumps (suc k) j ≡ Some j → (a : ℕ) → (r : ℕ) × (far_by jumps (a + r) j ≡ Some j)
round-more jumps k j round zero = (0, refl)
round-more jumps k j round (suc a) =
    let r = round-more jumps k j round a in
    let e : (a + r.0) + suc k ≡ suc a + (r.0 + k) = omega arith in
    (r.0 + k, ap (λ q. far_by jumps q j) (sym e) ∙ far-then jumps (a + r.0) j j r.1 (suc k) ∙ round)

-- A loop comes again after as many steps as there are indices, or fewer.
pub loop-short : (jumps : List (Option ℕ)) → StaysIn jumps → (j : ℕ) → j < length jumps → OnLoop jumps j → (k : ℕ) × (k < length jumps) × (far_by jumps (suc k) j ≡ Some j)
loop-short jumps stays j in' loop =
    let r = round-more jumps loop.0 j loop.1 (length jumps) in
    let w = far-part jumps (length jumps) r.0 j j r.1 in
    let t = meets-twice jumps stays (length jumps) j w.0 in' (omega arith) w.1 in
    let le = t.3 in
    let b = round-more jumps loop.0 j loop.1 t.1 in
    let v = far-part jumps t.1 b.0 j j b.1 in
    let same : v.0 ≡ t.0 = some-same v.0 t.0 (sym v.1 ∙ t.4) in
    let back : far_by jumps b.0 t.0 ≡ Some j = ap (far_by jumps b.0) (sym same) ∙ v.2 in
    (t.2, omega arith, loop-moves jumps (suc t.2) b.0 t.0 j t.5 back)
