-- What a list holds: of joined, filtered and mapped lists, and by tests.
use Rattle.std.proofs.Common.{◌≡◌, ◌⊎◌, ◌+◌, ◌≤◌, ◌<◌, ℕ, zero, suc, Bool, true, false, cond, ◌==◌, List, [], ◌∷◌, ◌++◌, length, map, take, get_or, filter, flat_map, bytes_eq, refl, sym, ◌∙◌, ap, subst, inl, inr}
use Rattle.std.specs.List.{list_any}
use Rattle.std.proofs.lemmas.Bool.{cases_Bool, false≢true, or_cases, or_left, or_right, eqb-true, eq-eqb}
use Rattle.std.proofs.lemmas.List.{take_more, take_all}
use Rattle.std.proofs.lemmas.Slice.Eq.{bytes_eq-Decides}
use Rattle.thread_model.specs.Members.{Among, has, has_number}

pub among-left : {X : Type 0} (xs ys : List X) (x : X) → Among xs x → Among (xs ++ ys) x
among-left [] ys x h = absurd h
among-left (y ∷ xs) ys x (inl is) = inl is
among-left (y ∷ xs) ys x (inr h) = inr (among-left xs ys x h)

pub among-right : {X : Type 0} (xs ys : List X) (x : X) → Among ys x → Among (xs ++ ys) x
among-right [] ys x h = h
among-right (y ∷ xs) ys x h = inr (among-right xs ys x h)

pub among-append : {X : Type 0} (xs ys : List X) (x : X) → Among (xs ++ ys) x → Among xs x ⊎ Among ys x
among-append [] ys x h = inr h
among-append (y ∷ xs) ys x (inl is) = inl (inl is)
among-append (y ∷ xs) ys x (inr h) = elim (among-append xs ys x h) [ inl a ↦ inl (inr a) | inr b ↦ inr b ]

-- An item of one list that is one item more.
pub among-push : {X : Type 0} (xs : List X) (y x : X) → Among (xs ++ y ∷ []) x → Among xs x ⊎ (x ≡ y)
among-push xs y x h = elim (among-append xs (y ∷ []) x h) [ inl a ↦ inl a | inr b ↦ elim b [ inl is ↦ inr is | inr none ↦ absurd none ] ]

pub among-pushed : {X : Type 0} (xs : List X) (y : X) → Among (xs ++ y ∷ []) y
among-pushed xs y = among-right xs (y ∷ []) y (inl refl)

among-filter-by : {X : Type 0} (test : X → Bool) (y : X) (ys : List X) (x : X) (t : Bool) → test y ≡ t → (Among (filter test ys) x → Among ys x × (test x ≡ true)) → Among (cond t (y ∷ filter test ys) (filter test ys)) x
    → Among (y ∷ ys) x × (test x ≡ true)
among-filter-by test y ys x true e ih (inl is) = (inl is, ap test is ∙ e)
among-filter-by test y ys x true e ih (inr h) = (inr (ih h).0, (ih h).1)
among-filter-by test y ys x false e ih h = (inr (ih h).0, (ih h).1)

pub among-filter : {X : Type 0} (test : X → Bool) (xs : List X) (x : X) → Among (filter test xs) x → Among xs x × (test x ≡ true)
among-filter test [] x h = absurd h
among-filter test (y ∷ ys) x h = among-filter-by test y ys x (test y) refl (among-filter test ys x) h

filtered-here : {X : Type 0} (test : X → Bool) (y : X) (ys : List X) (x : X) (t : Bool) → t ≡ true → x ≡ y → Among (cond t (y ∷ filter test ys) (filter test ys)) x
filtered-here test y ys x true e is = inl is
filtered-here test y ys x false e is = absurd (false≢true e)

filtered-later : {X : Type 0} (test : X → Bool) (y : X) (ys : List X) (x : X) (t : Bool) → Among (filter test ys) x → Among (cond t (y ∷ filter test ys) (filter test ys)) x
filtered-later test y ys x true h = inr h
filtered-later test y ys x false h = h

pub among-filtered : {X : Type 0} (test : X → Bool) (xs : List X) (x : X) → Among xs x → test x ≡ true → Among (filter test xs) x
among-filtered test [] x h t = absurd h
among-filtered test (y ∷ ys) x (inl is) t = filtered-here test y ys x (test y) (sym (ap test is) ∙ t) is
among-filtered test (y ∷ ys) x (inr h) t = filtered-later test y ys x (test y) (among-filtered test ys x h t)

pub among-flat_map : {X Y : Type 0} (f : X → List Y) (xs : List X) (y : Y) → Among (flat_map f xs) y → (x : X) × Among xs x × Among (f x) y
among-flat_map f [] y h = absurd h
among-flat_map f (x ∷ xs) y h = elim (among-append (f x) (flat_map f xs) y h) [
  | inl a ↦ (x, inl refl, a)
  | inr b ↦ let r = among-flat_map f xs y b in (r.0, inr r.1, r.2)
]

pub among-flattened : {X Y : Type 0} (f : X → List Y) (xs : List X) (x : X) (y : Y) → Among xs x → Among (f x) y → Among (flat_map f xs) y
among-flattened f [] x y h k = absurd h
among-flattened f (z ∷ xs) x y (inl is) k = among-left (f z) (flat_map f xs) y (subst (λ w. Among (f w) y) is k)
among-flattened f (z ∷ xs) x y (inr h) k = among-right (f z) (flat_map f xs) y (among-flattened f xs x y h k)

pub among-map : {X Y : Type 0} (f : X → Y) (xs : List X) (x : X) → Among xs x → Among (map f xs) (f x)
among-map f [] x h = absurd h
among-map f (y ∷ ys) x (inl is) = inl (ap f is)
among-map f (y ∷ ys) x (inr h) = inr (among-map f ys x h)

pub among-mapped : {X Y : Type 0} (f : X → Y) (xs : List X) (y : Y) → Among (map f xs) y → (x : X) × Among xs x × (f x ≡ y)
among-mapped f [] y h = absurd h
among-mapped f (x ∷ xs) y (inl is) = (x, inl refl, sym is)
among-mapped f (x ∷ xs) y (inr h) = let r = among-mapped f xs y h in (r.0, inr r.1, r.2)

-- By tests.
pub any-among : {X : Type 0} (test : X → Bool) (xs : List X) → list_any test xs ≡ true → (x : X) × Among xs x × (test x ≡ true)
any-among test [] h = absurd (false≢true h)
any-among test (y ∷ ys) h = elim (or_cases (test y) (list_any test ys) h) [
  | inl a ↦ (y, inl refl, a)
  | inr b ↦ let r = any-among test ys b in (r.0, inr r.1, r.2)
]

pub among-any : {X : Type 0} (test : X → Bool) (xs : List X) (x : X) → Among xs x → test x ≡ true → list_any test xs ≡ true
among-any test [] x h t = absurd h
among-any test (y ∷ ys) x (inl is) t = or_left (test y) (list_any test ys) (sym (ap test is) ∙ t)
among-any test (y ∷ ys) x (inr h) t = or_right (test y) (list_any test ys) (among-any test ys x h t)

pub none-any : {X : Type 0} (test : X → Bool) (xs : List X) → ((x : X) → Among xs x → test x ≡ true → ⊥) → list_any test xs ≡ false
none-any test xs f = elim (cases_Bool (list_any test xs)) [
  | inl t ↦ let r = any-among test xs t in absurd (f r.0 r.1 r.2)
  | inr none ↦ none
]

pub has-among : (texts : List (List ℕ)) (text : List ℕ) → has texts text ≡ true → Among texts text
has-among texts text h =
    let r = any-among (λ (t : List ℕ). bytes_eq t text) texts h in
    subst (Among texts) ((bytes_eq-Decides r.0 text).0 r.2) r.1

pub among-has : (texts : List (List ℕ)) (text : List ℕ) → Among texts text → has texts text ≡ true
among-has texts text h = among-any (λ (t : List ℕ). bytes_eq t text) texts text h ((bytes_eq-Decides text text).1 refl)

pub number-among : (ns : List ℕ) (n : ℕ) → has_number ns n ≡ true → Among ns n
number-among ns n h =
    let r = any-among (λ (m : ℕ). m == n) ns h in
    subst (Among ns) (eqb-true r.0 n r.2) r.1

pub among-number : (ns : List ℕ) (n : ℕ) → Among ns n → has_number ns n ≡ true
among-number ns n h = among-any (λ (m : ℕ). m == n) ns n h (eq-eqb n n refl)

-- A number is one of some, or not.
pub cases_among : (ns : List ℕ) (n : ℕ) → Among ns n ⊎ (Among ns n → ⊥)
cases_among ns n = elim (cases_Bool (has_number ns n)) [
  | inl t ↦ inl (number-among ns n t)
  | inr f ↦ inr (λ h. false≢true (sym f ∙ among-number ns n h))
]

-- In a loop: the items up to an index, and one more.
pub take-cases : {X : Type 0} (xs : List X) (i : ℕ) (d x : X) → i < length xs → Among (take (i + 1) xs) x → Among (take i xs) x ⊎ (x ≡ get_or xs i d)
take-cases xs i d x in' h = among-push (take i xs) (get_or xs i d) x (subst (λ ys. Among ys x) (take_more xs i d in') h)

pub take-old : {X : Type 0} (xs : List X) (i : ℕ) (d x : X) → i < length xs → Among (take i xs) x → Among (take (i + 1) xs) x
take-old xs i d x in' h = subst (λ ys. Among ys x) (sym (take_more xs i d in')) (among-left (take i xs) (get_or xs i d ∷ []) x h)

pub take-new : {X : Type 0} (xs : List X) (i : ℕ) (d : X) → i < length xs → Among (take (i + 1) xs) (get_or xs i d)
take-new xs i d in' = subst (λ ys. Among ys (get_or xs i d)) (sym (take_more xs i d in')) (among-pushed (take i xs) (get_or xs i d))

pub take-among : {X : Type 0} (xs : List X) (i : ℕ) (x : X) → Among (take i xs) x → Among xs x
take-among xs zero x h = absurd h
take-among [] (suc i) x h = absurd h
take-among (y ∷ xs) (suc i) x (inl is) = inl is
take-among (y ∷ xs) (suc i) x (inr h) = inr (take-among xs i x h)

pub get-among : {X : Type 0} (xs : List X) (i : ℕ) (d : X) → i < length xs → Among xs (get_or xs i d)
get-among xs i d in' = take-among xs (i + 1) (get_or xs i d) (take-new xs i d in')

pub take-end : {X : Type 0} (xs : List X) (i : ℕ) (x : X) → length xs ≤ i → Among xs x → Among (take i xs) x
take-end xs i x past h = subst (λ ys. Among ys x) (sym (take_all i xs past)) h
