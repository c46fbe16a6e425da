-- Numbers of which none stands twice.
use Rattle.std.proofs.Common.{◌≡◌, ◌⊎◌, ◌+◌, ◌≤◌, ◌<◌, ◌==◌, ℕ, zero, suc, Bool, true, false, cond, List, [], ◌∷◌, ◌++◌, length, map, filter, refl, sym, ◌∙◌, ap, subst, inl, inr, arith, nat_cmp, Less}
use Rattle.std.specs.List.{AllByRecursion}
use Rattle.std.specs.List.Sorted.{IsStrictlySortedBy}
use Rattle.std.proofs.lemmas.Bool.{false≢true, eqb-true, eq-eqb}
use Rattle.std.proofs.lemmas.Cmp.{ranked}
use Rattle.std.proofs.lemmas.Map.Keys.{sorted_head, sorted_tail}
use Rattle.thread_model.specs.Members.{Among, Once, Rises}
use Rattle.thread_model.proofs.Members.{among-append, among-map, among-mapped, among-filter}

-- The numbers without the first place of one.
abbrev without : List ℕ → ℕ → List ℕ
without [] n = []
without (m ∷ ms) n = cond (m == n) ms (m ∷ without ms n)

without-length-by : (m : ℕ) (ms : List ℕ) (n : ℕ) (t : Bool) → (m == n) ≡ t → (Among ms n → length (without ms n) + 1 ≡ length ms) → Among (m ∷ ms) n → length (cond t ms (m ∷ without ms n)) + 1 ≡ length (m ∷ ms)
without-length-by m ms n true e ih h = omega arith
without-length-by m ms n false e ih (inl is) = absurd (false≢true (sym e ∙ eq-eqb m n (sym is)))
without-length-by m ms n false e ih (inr h) = let r : length (without ms n) + 1 ≡ length ms = ih h in omega arith

without-length : (ms : List ℕ) (n : ℕ) → Among ms n → length (without ms n) + 1 ≡ length ms
without-length [] n h = absurd h
without-length (m ∷ ms) n h = without-length-by m ms n (m == n) refl (without-length ms n) h

without-kept-by : (m : ℕ) (ms : List ℕ) (n x : ℕ) (t : Bool) → (m == n) ≡ t → (Among ms x → Among (without ms n) x) → (x ≡ n → ⊥) → Among (m ∷ ms) x → Among (cond t ms (m ∷ without ms n)) x
without-kept-by m ms n x true e ih ne (inl is) = absurd (ne (is ∙ eqb-true m n e))
without-kept-by m ms n x true e ih ne (inr h) = h
without-kept-by m ms n x false e ih ne (inl is) = inl is
without-kept-by m ms n x false e ih ne (inr h) = inr (ih h)

without-kept : (ms : List ℕ) (n x : ℕ) → (x ≡ n → ⊥) → Among ms x → Among (without ms n) x
without-kept [] n x ne h = absurd h
without-kept (m ∷ ms) n x ne h = without-kept-by m ms n x (m == n) refl (without-kept ms n x ne) ne h

-- Numbers that are all among others are no more than these.
pub once-length : (xs ys : List ℕ) → Once xs → ((n : ℕ) → Among xs n → Among ys n) → length xs ≤ length ys
once-length [] ys once f = omega arith
once-length (x ∷ xs) ys once f =
    let rest : length xs ≤ length (without ys x) = once-length xs (without ys x) once.1 (λ n h. without-kept ys x n (λ is. once.0 (subst (Among xs) is h)) (f n (inr h))) in
    let one : length (without ys x) + 1 ≡ length ys = without-length ys x (f x (inl refl)) in
    omega arith

pub once-append : (xs ys : List ℕ) → Once xs → Once ys → ((n : ℕ) → Among xs n → Among ys n → ⊥) → Once (xs ++ ys)
once-append [] ys a b apart = b
once-append (x ∷ xs) ys a b apart = (
  λ h. elim (among-append xs ys x h) [ inl i ↦ a.0 i | inr j ↦ apart x (inl refl) j ],
  once-append xs ys a.1 b (λ n h k. apart n (inr h) k),
)

pub once-push : (xs : List ℕ) (y : ℕ) → Once xs → (Among xs y → ⊥) → Once (xs ++ y ∷ [])
once-push xs y once ne = once-append xs (y ∷ []) once ((λ h. h), tt) (λ n h k. elim k [ inl is ↦ ne (subst (Among xs) is h) | inr none ↦ none ])

once-filter-by : {X : Type 0} (f : X → ℕ) (test : X → Bool) (x : X) (xs : List X) (t : Bool) → Once (map f (x ∷ xs)) → Once (map f (filter test xs)) → Once (map f (cond t (x ∷ filter test xs) (filter test xs)))
once-filter-by f test x xs true once ih = (
  λ h.
      let r = among-mapped f (filter test xs) (f x) h in
      once.0 (subst (Among (map f xs)) r.2 (among-map f xs r.0 (among-filter test xs r.0 r.1).0)),
  ih,
)
once-filter-by f test x xs false once ih = ih

-- A part of items with numbers of their own has such numbers too.
pub once-filter : {X : Type 0} (f : X → ℕ) (test : X → Bool) (xs : List X) → Once (map f xs) → Once (map f (filter test xs))
once-filter f test [] once = once
once-filter f test (x ∷ xs) once = once-filter-by f test x xs (test x) once (once-filter f test xs once.1)

-- Items with numbers of their own are known by their numbers.
pub once-single : {X : Type 0} (f : X → ℕ) (xs : List X) → Once (map f xs) → (x y : X) → Among xs x → Among xs y → f x ≡ f y → x ≡ y
once-single f [] once x y h k e = absurd h
once-single f (z ∷ zs) once x y (inl p) (inl q) e = p ∙ sym q
once-single f (z ∷ zs) once x y (inl p) (inr k) e = absurd (once.0 (subst (Among (map f zs)) (sym e ∙ ap f p) (among-map f zs y k)))
once-single f (z ∷ zs) once x y (inr h) (inl q) e = absurd (once.0 (subst (Among (map f zs)) (e ∙ ap f q) (among-map f zs x h)))
once-single f (z ∷ zs) once x y (inr h) (inr k) e = once-single f zs once.1 x y h k e

pub all-among : {X : Type 0} (P : X → Type 0) (xs : List X) (x : X) → AllByRecursion P xs → Among xs x → P x
all-among P [] x all h = absurd h
all-among P (y ∷ ys) x all (inl is) = subst P (sym is) all.0
all-among P (y ∷ ys) x all (inr h) = all-among P ys x all.1 h

pub rises-from_sorted : (xs : List ℕ) → IsStrictlySortedBy nat_cmp xs → Rises xs
rises-from_sorted [] sorted = tt
rises-from_sorted (x ∷ xs) sorted = (
  λ n h. ranked x n Less (sym (all-among (λ y. nat_cmp x y ≡ Less) xs n (sorted_head nat_cmp x xs sorted) h)),
  rises-from_sorted xs (sorted_tail nat_cmp x xs sorted),
)

-- Numbers that rise are all different.
pub rises-once : (xs : List ℕ) → Rises xs → Once xs
rises-once [] rises = tt
rises-once (x ∷ xs) rises = (λ h. let lt : x < x = rises.0 x h in absurd (omega arith), rises-once xs rises.1)

pub sorted-once : (xs : List ℕ) → IsStrictlySortedBy nat_cmp xs → Once xs
sorted-once xs sorted = rises-once xs (rises-from_sorted xs sorted)

rises-filter-by : {X : Type 0} (f : X → ℕ) (test : X → Bool) (x : X) (xs : List X) (t : Bool) → Rises (map f (x ∷ xs)) → Rises (map f (filter test xs)) → Rises (map f (cond t (x ∷ filter test xs) (filter test xs)))
rises-filter-by f test x xs true rises ih = (
  λ n h.
      let r = among-mapped f (filter test xs) n h in
      subst (λ m. f x < m) r.2 (rises.0 (f r.0) (among-map f xs r.0 (among-filter test xs r.0 r.1).0)),
  ih,
)
rises-filter-by f test x xs false rises ih = ih

-- A part of items whose numbers rise has rising numbers.
pub rises-filter : {X : Type 0} (f : X → ℕ) (test : X → Bool) (xs : List X) → Rises (map f xs) → Rises (map f (filter test xs))
rises-filter f test [] rises = rises
rises-filter f test (x ∷ xs) rises = rises-filter-by f test x xs (test x) rises (rises-filter f test xs rises.1)

same-front : (x y : ℕ) (xs ys : List ℕ) → Rises (x ∷ xs) → Rises (y ∷ ys) → (x ≡ y) ⊎ Among ys x → (y ≡ x) ⊎ Among xs y → x ≡ y
same-front x y xs ys a b (inl is) k = is
same-front x y xs ys a b (inr h) (inl is) = sym is
same-front x y xs ys a b (inr h) (inr k) = let one : y < x = b.0 x h in let two : x < y = a.0 y k in absurd (omega arith)

later-one : (x y n : ℕ) (ys : List ℕ) → x ≡ y → x < n → (n ≡ y) ⊎ Among ys n → Among ys n
later-one x y n ys same less (inl is) = absurd (omega arith)
later-one x y n ys same less (inr h) = h

-- Rising numbers are known by what they hold.
pub rises-same : (xs ys : List ℕ) → Rises xs → Rises ys → ((n : ℕ) → Among xs n → Among ys n) → ((n : ℕ) → Among ys n → Among xs n) → xs ≡ ys
rises-same [] [] a b f g = refl
rises-same [] (y ∷ ys) a b f g = absurd (g y (inl refl))
rises-same (x ∷ xs) [] a b f g = absurd (f x (inl refl))
rises-same (x ∷ xs) (y ∷ ys) a b f g =
    let same : x ≡ y = same-front x y xs ys a b (f x (inl refl)) (g y (inl refl)) in
    let rest : xs ≡ ys = rises-same xs ys a.1 b.1
    (λ n h. later-one x y n ys same (a.0 n h) (f n (inr h)))
    (λ n h. later-one y x n xs (sym same) (b.0 n h) (g n (inr h))) in
    λ i. same i ∷ rest i
