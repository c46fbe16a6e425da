-- The entries of maps and sets by numbers.
use Rattle.std.proofs.Common.{◌≡◌, ◌⊎◌, ◌==◌, ◌<◌, ℕ, Bool, true, false, cond, ltb, List, [], ◌∷◌, Option, Some, None, map, refl, sym, ◌∙◌, ap, subst, inl, inr, arith, nat_cmp, is_eq, Ordering, Less, Equal, Greater}
use Rattle.std.specs.List.{list_any}
use Rattle.std.specs.Ordering.{match_ordering}
use Rattle.std.specs.Map.{lookup, remove_entry}
use Rattle.std.specs.BTreeMap.{insert_entry, is_at}
use Rattle.std.specs.BTreeSet.{insert_key}
use Rattle.std.specs.Set.{remove_key}
use Rattle.std.proofs.lemmas.Bool.{false≢true, ltb-true, ne_eqb, eqb-true, eq-eqb}
use Rattle.thread_model.specs.Members.{Among, Once}
use Rattle.thread_model.proofs.Members.{any-among, among-any, among-map}

-- Comparing two numbers answers Equal where the numbers are equal.
equal-by : (t u : Bool) → (t ≡ true → u ≡ false) → is_eq (cond t Less (cond u Equal Greater)) ≡ u
equal-by true u f = sym (f refl)
equal-by false true f = refl
equal-by false false f = refl

pub at-eqb : (n m : ℕ) → is_at (nat_cmp n) m ≡ (n == m)
at-eqb n m = equal-by (ltb n m) (n == m) (λ e. ne_eqb n m (λ (s : n ≡ m). let lt : n < m = ltb-true n m e in absurd (omega arith)))

pub at-true : (n m : ℕ) → is_at (nat_cmp n) m ≡ true → n ≡ m
at-true n m e = eqb-true n m (sym (at-eqb n m) ∙ e)

pub true-at : (n m : ℕ) → n ≡ m → is_at (nat_cmp n) m ≡ true
true-at n m e = at-eqb n m ∙ eq-eqb n m e

pub false-at : (n m : ℕ) → (n ≡ m → ⊥) → is_at (nat_cmp n) m ≡ false
false-at n m ne = at-eqb n m ∙ ne_eqb n m ne

pub equal-true : (n m : ℕ) → nat_cmp n m ≡ Equal → n ≡ m
equal-true n m e = at-true n m (ap is_eq e)

pub none-some : {X : Type 0} (x : X) → None ≡ Some x → ⊥
none-some x h = cc

pub some-none : {X : Type 0} (x : X) → Some x ≡ None → ⊥
some-none x h = cc

pub some-same : {X : Type 0} (x y : X) → Some x ≡ Some y → x ≡ y
some-same x y h = cc

pub same-pair : {X : Type 0} (a b : ℕ × X) → a.0 ≡ b.0 → a.1 ≡ b.1 → a ≡ b
same-pair a b p q = λ i. (p i, q i)

-- What is found stands among the entries.
lookup-among-by : {X : Type 0} (e : ℕ × X) (es : List (ℕ × X)) (n : ℕ) (x : X) (t : Bool) → is_at (nat_cmp n) e.0 ≡ t → (lookup (is_at (nat_cmp n)) es ≡ Some x → Among es (n, x)) → cond t (Some e.1) (lookup (is_at (nat_cmp n)) es) ≡ Some x → Among (e ∷ es) (n, x)
lookup-among-by e es n x true at ih h = inl (same-pair (n, x) e (at-true n e.0 at) (sym (some-same e.1 x h)))
lookup-among-by e es n x false at ih h = inr (ih h)

pub lookup-among : {X : Type 0} (es : List (ℕ × X)) (n : ℕ) (x : X) → lookup (is_at (nat_cmp n)) es ≡ Some x → Among es (n, x)
lookup-among [] n x h = absurd (none-some x h)
lookup-among (e ∷ es) n x h = lookup-among-by e es n x (is_at (nat_cmp n) e.0) refl (lookup-among es n x) h

lookup-none-by : {X : Type 0} (v : X) (found : Option X) (t : Bool) → cond t (Some v) found ≡ None → (t ≡ false) × (found ≡ None)
lookup-none-by v found true h = absurd (some-none v h)
lookup-none-by v found false h = (refl, h)

-- No entry has a number that isn't found.
pub lookup-none : {X : Type 0} (es : List (ℕ × X)) (n : ℕ) → lookup (is_at (nat_cmp n)) es ≡ None → (x : ℕ × X) → Among es x → x.0 ≡ n → ⊥
lookup-none [] n h x in' e = in'
lookup-none {X = X} (y ∷ es) n h x (inl is) e =
    let r = lookup-none-by y.1 (lookup (is_at (nat_cmp n)) es) (is_at (nat_cmp n) y.0) h in
    false≢true (sym r.0 ∙ true-at n y.0 (sym e ∙ ap (λ (z : ℕ × X). z.0) is))
lookup-none (y ∷ es) n h x (inr in') e =
    let r = lookup-none-by y.1 (lookup (is_at (nat_cmp n)) es) (is_at (nat_cmp n) y.0) h in
    lookup-none es n r.1 x in' e

-- An inserted entry of a new number.
insert-cases-by : {X : Type 0} (e : ℕ × X) (es : List (ℕ × X)) (n : ℕ) (v : X) (x : ℕ × X) (o : Ordering) → nat_cmp n e.0 ≡ o → (e.0 ≡ n → ⊥) → (Among (insert_entry nat_cmp es n v) x → (x ≡ (n, v)) ⊎ Among es x)
    → Among (match_ordering o ((n, v) ∷ e ∷ es) ((e.0, v) ∷ es) (e ∷ insert_entry nat_cmp es n v)) x → (x ≡ (n, v)) ⊎ Among (e ∷ es) x
insert-cases-by e es n v x Less is ne ih h = h
insert-cases-by e es n v x Equal is ne ih h = absurd (ne (sym (equal-true n e.0 is)))
insert-cases-by e es n v x Greater is ne ih (inl a) = inr (inl a)
insert-cases-by e es n v x Greater is ne ih (inr h) = elim (ih h) [ inl a ↦ inl a | inr b ↦ inr (inr b) ]

pub insert-cases : {X : Type 0} (es : List (ℕ × X)) (n : ℕ) (v : X) → ((x : ℕ × X) → Among es x → x.0 ≡ n → ⊥) → (x : ℕ × X) → Among (insert_entry nat_cmp es n v) x → (x ≡ (n, v)) ⊎ Among es x
insert-cases [] n v new x h = h
insert-cases (e ∷ es) n v new x h = insert-cases-by e es n v x (nat_cmp n e.0) refl (new e (inl refl)) (insert-cases es n v (λ y k. new y (inr k)) x) h

insert-here-by : {X : Type 0} (e : ℕ × X) (es : List (ℕ × X)) (n : ℕ) (v : X) (o : Ordering) → nat_cmp n e.0 ≡ o → (e.0 ≡ n → ⊥) → Among (insert_entry nat_cmp es n v) (n, v)
    → Among (match_ordering o ((n, v) ∷ e ∷ es) ((e.0, v) ∷ es) (e ∷ insert_entry nat_cmp es n v)) (n, v)
insert-here-by e es n v Less is ne ih = inl refl
insert-here-by e es n v Equal is ne ih = absurd (ne (sym (equal-true n e.0 is)))
insert-here-by e es n v Greater is ne ih = inr ih

pub insert-here : {X : Type 0} (es : List (ℕ × X)) (n : ℕ) (v : X) → ((x : ℕ × X) → Among es x → x.0 ≡ n → ⊥) → Among (insert_entry nat_cmp es n v) (n, v)
insert-here [] n v new = inl refl
insert-here (e ∷ es) n v new = insert-here-by e es n v (nat_cmp n e.0) refl (new e (inl refl)) (insert-here es n v (λ y k. new y (inr k)))

insert-kept-by : {X : Type 0} (e : ℕ × X) (es : List (ℕ × X)) (n : ℕ) (v : X) (x : ℕ × X) (o : Ordering) → nat_cmp n e.0 ≡ o → (e.0 ≡ n → ⊥) → (Among es x → Among (insert_entry nat_cmp es n v) x)
    → Among (e ∷ es) x → Among (match_ordering o ((n, v) ∷ e ∷ es) ((e.0, v) ∷ es) (e ∷ insert_entry nat_cmp es n v)) x
insert-kept-by e es n v x Less is ne ih h = inr h
insert-kept-by e es n v x Equal is ne ih h = absurd (ne (sym (equal-true n e.0 is)))
insert-kept-by e es n v x Greater is ne ih (inl a) = inl a
insert-kept-by e es n v x Greater is ne ih (inr b) = inr (ih b)

pub insert-kept : {X : Type 0} (es : List (ℕ × X)) (n : ℕ) (v : X) → ((x : ℕ × X) → Among es x → x.0 ≡ n → ⊥) → (x : ℕ × X) → Among es x → Among (insert_entry nat_cmp es n v) x
insert-kept [] n v new x h = absurd h
insert-kept (e ∷ es) n v new x h = insert-kept-by e es n v x (nat_cmp n e.0) refl (new e (inl refl)) (insert-kept es n v (λ y k. new y (inr k)) x) h

-- A removed entry, of entries with numbers of their own.
removed-cases-by : {X : Type 0} (e : ℕ × X) (es : List (ℕ × X)) (n : ℕ) (x : ℕ × X) (t : Bool) → is_at (nat_cmp n) e.0 ≡ t → (Among (map (λ (z : ℕ × X). z.0) es) e.0 → ⊥) → (Among (remove_entry (is_at (nat_cmp n)) es) x → Among es x × (x.0 ≡ n → ⊥))
    → Among (cond t es (e ∷ remove_entry (is_at (nat_cmp n)) es)) x → Among (e ∷ es) x × (x.0 ≡ n → ⊥)
removed-cases-by {X = X} e es n x true at once ih h = (inr h, λ s. once (subst (Among (map (λ (z : ℕ × X). z.0) es)) (s ∙ at-true n e.0 at) (among-map (λ (z : ℕ × X). z.0) es x h)))
removed-cases-by {X = X} e es n x false at once ih (inl is) = (inl is, λ s. false≢true (sym at ∙ true-at n e.0 (sym s ∙ ap (λ (z : ℕ × X). z.0) is)))
removed-cases-by e es n x false at once ih (inr h) = let r = ih h in (inr r.0, r.1)

pub removed-cases : {X : Type 0} (es : List (ℕ × X)) (n : ℕ) → Once (map (λ (z : ℕ × X). z.0) es) → (x : ℕ × X) → Among (remove_entry (is_at (nat_cmp n)) es) x → Among es x × (x.0 ≡ n → ⊥)
removed-cases [] n once x h = absurd h
removed-cases (e ∷ es) n once x h = removed-cases-by e es n x (is_at (nat_cmp n) e.0) refl once.0 (removed-cases es n once.1 x) h

removed-kept-by : {X : Type 0} (e : ℕ × X) (es : List (ℕ × X)) (n : ℕ) (x : ℕ × X) (t : Bool) → is_at (nat_cmp n) e.0 ≡ t → (x.0 ≡ n → ⊥) → (Among es x → Among (remove_entry (is_at (nat_cmp n)) es) x)
    → Among (e ∷ es) x → Among (cond t es (e ∷ remove_entry (is_at (nat_cmp n)) es)) x
removed-kept-by {X = X} e es n x true at other ih (inl is) = absurd (other (ap (λ (z : ℕ × X). z.0) is ∙ sym (at-true n e.0 at)))
removed-kept-by e es n x true at other ih (inr h) = h
removed-kept-by e es n x false at other ih (inl is) = inl is
removed-kept-by e es n x false at other ih (inr h) = inr (ih h)

pub removed-kept : {X : Type 0} (es : List (ℕ × X)) (n : ℕ) (x : ℕ × X) → (x.0 ≡ n → ⊥) → Among es x → Among (remove_entry (is_at (nat_cmp n)) es) x
removed-kept [] n x other h = absurd h
removed-kept (e ∷ es) n x other h = removed-kept-by e es n x (is_at (nat_cmp n) e.0) refl other (removed-kept es n x other) h

-- Keys of sets.
pub at-among : (ks : List ℕ) (n : ℕ) → list_any (is_at (nat_cmp n)) ks ≡ true → Among ks n
at-among ks n h = let r = any-among (is_at (nat_cmp n)) ks h in subst (Among ks) (sym (at-true n r.0 r.2)) r.1

pub among-at : (ks : List ℕ) (n : ℕ) → Among ks n → list_any (is_at (nat_cmp n)) ks ≡ true
among-at ks n h = among-any (is_at (nat_cmp n)) ks n h (true-at n n refl)

key-cases-by : {K : Type 0} (cmp : K → K → Ordering) (y : K) (ks : List K) (k x : K) (o : Ordering) → (Among (insert_key cmp ks k) x → (x ≡ k) ⊎ Among ks x)
    → Among (match_ordering o (k ∷ y ∷ ks) (y ∷ ks) (y ∷ insert_key cmp ks k)) x → (x ≡ k) ⊎ Among (y ∷ ks) x
key-cases-by cmp y ks k x Less ih h = h
key-cases-by cmp y ks k x Equal ih h = inr h
key-cases-by cmp y ks k x Greater ih (inl a) = inr (inl a)
key-cases-by cmp y ks k x Greater ih (inr h) = elim (ih h) [ inl a ↦ inl a | inr b ↦ inr (inr b) ]

pub key-cases : {K : Type 0} (cmp : K → K → Ordering) (ks : List K) (k x : K) → Among (insert_key cmp ks k) x → (x ≡ k) ⊎ Among ks x
key-cases cmp [] k x h = h
key-cases cmp (y ∷ ks) k x h = key-cases-by cmp y ks k x (cmp k y) (key-cases cmp ks k x) h

key-here-by : (y : ℕ) (ks : List ℕ) (n : ℕ) (o : Ordering) → nat_cmp n y ≡ o → Among (insert_key nat_cmp ks n) n → Among (match_ordering o (n ∷ y ∷ ks) (y ∷ ks) (y ∷ insert_key nat_cmp ks n)) n
key-here-by y ks n Less is ih = inl refl
key-here-by y ks n Equal is ih = inl (equal-true n y is)
key-here-by y ks n Greater is ih = inr ih

pub key-here : (ks : List ℕ) (n : ℕ) → Among (insert_key nat_cmp ks n) n
key-here [] n = inl refl
key-here (y ∷ ks) n = key-here-by y ks n (nat_cmp n y) refl (key-here ks n)

key-kept-by : (y : ℕ) (ks : List ℕ) (n x : ℕ) (o : Ordering) → (Among ks x → Among (insert_key nat_cmp ks n) x) → Among (y ∷ ks) x → Among (match_ordering o (n ∷ y ∷ ks) (y ∷ ks) (y ∷ insert_key nat_cmp ks n)) x
key-kept-by y ks n x Less ih h = inr h
key-kept-by y ks n x Equal ih h = h
key-kept-by y ks n x Greater ih (inl a) = inl a
key-kept-by y ks n x Greater ih (inr b) = inr (ih b)

pub key-kept : (ks : List ℕ) (n x : ℕ) → Among ks x → Among (insert_key nat_cmp ks n) x
key-kept [] n x h = absurd h
key-kept (y ∷ ks) n x h = key-kept-by y ks n x (nat_cmp n y) (key-kept ks n x) h

key-removed-by : (y : ℕ) (ks : List ℕ) (n x : ℕ) (t : Bool) → is_at (nat_cmp n) y ≡ t → (Among ks y → ⊥) → (Among (remove_key (is_at (nat_cmp n)) ks) x → Among ks x × (x ≡ n → ⊥))
    → Among (cond t ks (y ∷ remove_key (is_at (nat_cmp n)) ks)) x → Among (y ∷ ks) x × (x ≡ n → ⊥)
key-removed-by y ks n x true at once ih h = (inr h, λ s. once (subst (Among ks) (s ∙ at-true n y at) h))
key-removed-by y ks n x false at once ih (inl is) = (inl is, λ s. false≢true (sym at ∙ true-at n y (sym s ∙ is)))
key-removed-by y ks n x false at once ih (inr h) = let r = ih h in (inr r.0, r.1)

pub key-removed : (ks : List ℕ) (n : ℕ) → Once ks → (x : ℕ) → Among (remove_key (is_at (nat_cmp n)) ks) x → Among ks x × (x ≡ n → ⊥)
key-removed [] n once x h = absurd h
key-removed (y ∷ ks) n once x h = key-removed-by y ks n x (is_at (nat_cmp n) y) refl once.0 (key-removed ks n once.1 x) h

key-left-by : (y : ℕ) (ks : List ℕ) (n x : ℕ) (t : Bool) → is_at (nat_cmp n) y ≡ t → (x ≡ n → ⊥) → (Among ks x → Among (remove_key (is_at (nat_cmp n)) ks) x)
    → Among (y ∷ ks) x → Among (cond t ks (y ∷ remove_key (is_at (nat_cmp n)) ks)) x
key-left-by y ks n x true at other ih (inl is) = absurd (other (is ∙ sym (at-true n y at)))
key-left-by y ks n x true at other ih (inr h) = h
key-left-by y ks n x false at other ih (inl is) = inl is
key-left-by y ks n x false at other ih (inr h) = inr (ih h)

pub key-left : (ks : List ℕ) (n x : ℕ) → (x ≡ n → ⊥) → Among ks x → Among (remove_key (is_at (nat_cmp n)) ks) x
key-left [] n x other h = absurd h
key-left (y ∷ ks) n x other h = key-left-by y ks n x (is_at (nat_cmp n) y) refl other (key-left ks n x other) h

-- A test that passes a key of a set with one key more passes that key, or one of the others.
pub any-inserted : {K : Type 0} (cmp : K → K → Ordering) (test : K → Bool) (ks : List K) (k : K) → list_any test (insert_key cmp ks k) ≡ true → (test k ≡ true) ⊎ (list_any test ks ≡ true)
any-inserted cmp test ks k h =
    let r = any-among test (insert_key cmp ks k) h in
    elim (key-cases cmp ks k r.0 r.1) [ inl is ↦ inl (sym (ap test is) ∙ r.2) | inr b ↦ inr (among-any test ks r.0 b r.2) ]
