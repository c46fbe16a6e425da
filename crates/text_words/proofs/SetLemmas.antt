-- Words in order and without repeats are the set of the words that they have.
use Rattle.std.proofs.Common.{◌≡◌, ℕ, Bool, true, false, cond, List, [], ◌∷◌, map, refl, sym, ap, subst, ◌∙◌}
use Rattle.std.specs.declared.cmp.Ordering.{Ordering}
use Rattle.std.specs.declared.cmp.Ordering.TheVariants.{Less, Equal, Greater}
use Rattle.std.specs.Borrow.{Bor}
use Rattle.std.specs.BTreeSet.{insert_key}
use Rattle.std.specs.Cmp.{IsTotalOrder}
use Rattle.std.specs.Cmp.Lexicographic.{slice_cmp, pointwise, nat_list_cmp_total, on_texts, texts_ties, bytes_decides}
use Rattle.std.specs.List.{AllByRecursion, dedup, dedup_from}
use Rattle.std.specs.List.Sorted.{IsPermutation, IsSorted, IsStrictlySortedBy}
use Rattle.std.specs.Ordering.{nat_cmp, match_ordering, ordering_reverse}
use Rattle.std.specs.Prelude.{nat_eq}
use Rattle.std.proofs.lemmas.Cmp.{tied_itself}
use Rattle.std.proofs.lemmas.List.Elements.{All-from_recursion, recursion_from_All}
use Rattle.std.proofs.lemmas.List.Kept.{IsStrictlySortedBy-dedup}
use Rattle.std.proofs.lemmas.List.Sorted.{All-permutation, IsPermutation-sym}
use Rattle.std.proofs.lemmas.Map.Keys.{sorted_head, sorted_tail}
use Rattle.std.proofs.lemmas.Map.Lookups.{exact_bytes}
use Rattle.text_words.specs.Sets.{word_cmp, with_words, word_set, lent}

-- What holds of each element.
all_map : {X : Type 0} (P Q : X → Type 0) → ((x : X) → P x → Q x) → (xs : List X) → AllByRecursion P xs → AllByRecursion Q xs
all_map P Q f [] h = tt
all_map P Q f (x ∷ xs) h = (f x h.0, all_map P Q f xs h.1)

all-moved : {X : Type 0} (P : X → Type 0) (xs ys : List X) → IsPermutation xs ys → AllByRecursion P xs → AllByRecursion P ys
all-moved P xs ys moved h = recursion_from_All P ys (All-permutation P xs ys moved (All-from_recursion P xs h))

module _ {K : Type 0} (R : K → K → Ordering) where
  sorted_cons : (x : K) (xs : List K) → AllByRecursion (λ y. R x y ≡ Less) xs → IsStrictlySortedBy R xs → IsStrictlySortedBy R (x ∷ xs)
  unfolding IsStrictlySortedBy
  sorted_cons x xs h s = (h, s)

  sorted_nil : IsStrictlySortedBy R []
  unfolding IsStrictlySortedBy
  sorted_nil = tt

  -- A key that is put in, and those that were there.
  all-insert : (P : K → Type 0) (key : K) (xs : List K) → P key → AllByRecursion P xs → AllByRecursion P (insert_key R xs key)
  all-insert P key [] p h = (p, tt)
  all-insert P key (x ∷ xs) p h = step (R key x) (all-insert P key xs p h.1)
    where
      step : (r : Ordering) → AllByRecursion P (insert_key R xs key) → AllByRecursion P (match_ordering r (key ∷ x ∷ xs) (x ∷ xs) (x ∷ insert_key R xs key))
      step Less ih = (p, h)
      step Equal ih = h
      step Greater ih = (h.0, ih)

module _ {K : Type 0} {R : K → K → Ordering} (o : IsTotalOrder R) (exact : (x y : K) → R x y ≡ Equal → x ≡ y) where
  sorted-insert : (key : K) (xs : List K) → IsStrictlySortedBy R xs → IsStrictlySortedBy R (insert_key R xs key)
  sorted-insert key [] s = sorted_cons R key [] tt (sorted_nil R)
  sorted-insert key (x ∷ xs) s = step (R key x) refl (sorted-insert key xs (sorted_tail R x xs s))
    where
      step : (r : Ordering) → R key x ≡ r → IsStrictlySortedBy R (insert_key R xs key) → IsStrictlySortedBy R (match_ordering r (key ∷ x ∷ xs) (x ∷ xs) (x ∷ insert_key R xs key))
      step Less e ih =
          sorted_cons R key (x ∷ xs) (e, all_map (λ y. R x y ≡ Less) (λ y. R key y ≡ Less) (λ y f. o.trans key x y e f) xs (sorted_head R x xs s)) s
      step Equal e ih = s
      step Greater e ih =
          sorted_cons R x (insert_key R xs key) (all-insert R (λ y. R x y ≡ Less) key xs (o.antisymm x key ∙ ap ordering_reverse e) (sorted_head R x xs s)) ih

  all-inserted : (P : K → Type 0) (key : K) (xs : List K) → AllByRecursion P (insert_key R xs key) → P key × AllByRecursion P xs
  all-inserted P key [] h = h
  all-inserted P key (x ∷ xs) h = step (R key x) refl h (λ later. all-inserted P key xs later)
    where
      step : (r : Ordering) → R key x ≡ r → AllByRecursion P (match_ordering r (key ∷ x ∷ xs) (x ∷ xs) (x ∷ insert_key R xs key)) → (AllByRecursion P (insert_key R xs key) → P key × AllByRecursion P xs)
          → P key × AllByRecursion P (x ∷ xs)
      step Less e k ih = k
      step Equal e k ih = (subst P (sym (exact key x e)) k.0, k)
      step Greater e k ih = (let later = ih k.1 in (later.0, (k.0, later.1)))

  -- A key isn't less than itself.
  not-less : (x : K) → R x x ≡ Less → (T : Type 0) → T
  not-less x h T = absurd (let same = tied_itself o x in cc)

  -- Two lists in order have the same first key, if what holds of all of one holds of all of the other.
  same-first : (x : K) (xs : List K) (y : K) (ys : List K) → AllByRecursion (λ z. R x z ≡ Less) xs → AllByRecursion (λ z. R y z ≡ Less) ys
      → ((P : K → Type 0) → AllByRecursion P (x ∷ xs) → AllByRecursion P (y ∷ ys)) → ((P : K → Type 0) → AllByRecursion P (y ∷ ys) → AllByRecursion P (x ∷ xs)) → (r : Ordering) → R x y ≡ r → x ≡ y
  same-first x xs y ys below_x below_y there back Equal e = exact x y e
  same-first x xs y ys below_x below_y there back Less e =
      let all = back (λ z. R x z ≡ Less) (e, all_map (λ z. R y z ≡ Less) (λ z. R x z ≡ Less) (λ z f. o.trans x y z e f) ys below_y) in
      not-less x all.0 (x ≡ y)
  same-first x xs y ys below_x below_y there back Greater e =
      let less : R y x ≡ Less = o.antisymm y x ∙ ap ordering_reverse e in
      let all = there (λ z. R y z ≡ Less) (less, all_map (λ z. R x z ≡ Less) (λ z. R y z ≡ Less) (λ z f. o.trans y x z less f) xs below_x) in
      not-less y all.0 (x ≡ y)

  -- What holds of all keys after the first one.
  all-later : (x : K) (xs ys : List K) → AllByRecursion (λ z. R x z ≡ Less) ys → ((P : K → Type 0) → AllByRecursion P (x ∷ xs) → AllByRecursion P (x ∷ ys)) → (P : K → Type 0) → AllByRecursion P xs → AllByRecursion P ys
  all-later x xs ys below there P h =
      let later : AllByRecursion (λ z. R x z ≡ Less → P z) ys = (there (λ z. R x z ≡ Less → P z) ((λ less. not-less x less (P x)), all_map P (λ z. R x z ≡ Less → P z) (λ z p less. p) xs h)).1 in
      both ys below later
    where
      both : (zs : List K) → AllByRecursion (λ z. R x z ≡ Less) zs → AllByRecursion (λ z. R x z ≡ Less → P z) zs → AllByRecursion P zs
      both [] less f = tt
      both (z ∷ zs) less f = (f.0 less.0, both zs less.1 f.1)

  -- Two lists in order are one, if what holds of all of one holds of all of the other.
  same-sorted : (xs ys : List K) → IsStrictlySortedBy R xs → IsStrictlySortedBy R ys → ((P : K → Type 0) → AllByRecursion P xs → AllByRecursion P ys) → ((P : K → Type 0) → AllByRecursion P ys → AllByRecursion P xs) → xs ≡ ys
  same-sorted [] [] s t there back = refl
  same-sorted [] (y ∷ ys) s t there back = absurd ((there (λ z. ⊥) tt).0)
  same-sorted (x ∷ xs) [] s t there back = absurd ((back (λ z. ⊥) tt).0)
  same-sorted (x ∷ xs) (y ∷ ys) s t there back =
      let below_x = sorted_head R x xs s in
      let below_y = sorted_head R y ys t in
      let e : x ≡ y = same-first x xs y ys below_x below_y there back (R x y) refl in
      let below = subst (λ (k : K). AllByRecursion (λ z. R k z ≡ Less) ys) (sym e) below_y in
      let ih = same-sorted xs ys (sorted_tail R x xs s) (sorted_tail R y ys t) (all-later x xs ys below (λ P h. (h.0, (there P h).1))) (all-later x ys xs below_x (λ P h. back P (subst P e h.0, h.1))) in
      ap (λ (k : K). k ∷ xs) e ∙ ap (λ (l : List K). y ∷ l) ih

-- Words that are put into a set one after the other.
sorted-with : (set words : List (List ℕ)) → IsStrictlySortedBy word_cmp set → IsStrictlySortedBy word_cmp (with_words set words)
sorted-with set [] s = s
sorted-with set (w ∷ ws) s = sorted-with (insert_key word_cmp set w) ws (sorted-insert nat_list_cmp_total exact_bytes w set s)

all-with : (P : List ℕ → Type 0) (set words : List (List ℕ)) → AllByRecursion P set → AllByRecursion P words → AllByRecursion P (with_words set words)
all-with P set [] h k = h
all-with P set (w ∷ ws) h k = all-with P (insert_key word_cmp set w) ws (all-insert word_cmp P w set k.0 h) k.1

all-from-with : (P : List ℕ → Type 0) (set words : List (List ℕ)) → AllByRecursion P (with_words set words) → AllByRecursion P set × AllByRecursion P words
all-from-with P set [] h = (h, tt)
all-from-with P set (w ∷ ws) h =
    let later = all-from-with P (insert_key word_cmp set w) ws h in
    let parts = all-inserted nat_list_cmp_total exact_bytes P w set later.0 in
    (parts.1, (parts.0, later.1))

-- Words that are lent.
abbrev lent_cmp : Bor (List ℕ) → Bor (List ℕ) → Ordering
lent_cmp x y = slice_cmp nat_cmp x.now y.now

abbrev lent_eq : Bor (List ℕ) → Bor (List ℕ) → Bool
lent_eq x y = pointwise nat_eq x.now y.now

all-lent : (P : List ℕ → Type 0) (xs : List (Bor (List ℕ))) → AllByRecursion P (map lent xs) → AllByRecursion (λ x. P (lent x)) xs
all-lent P [] h = tt
all-lent P (x ∷ xs) h = (h.0, all-lent P xs h.1)

all-of-lent : (P : List ℕ → Type 0) (xs : List (Bor (List ℕ))) → AllByRecursion (λ x. P (lent x)) xs → AllByRecursion P (map lent xs)
all-of-lent P [] h = tt
all-of-lent P (x ∷ xs) h = (h.0, all-of-lent P xs h.1)

sorted-lent : (xs : List (Bor (List ℕ))) → IsStrictlySortedBy lent_cmp xs → IsStrictlySortedBy word_cmp (map lent xs)
sorted-lent [] s = sorted_nil word_cmp
sorted-lent (x ∷ xs) s = sorted_cons word_cmp (lent x) (map lent xs) (all-of-lent (λ w. word_cmp (lent x) w ≡ Less) xs (sorted_head lent_cmp x xs s)) (sorted-lent xs (sorted_tail lent_cmp x xs s))

-- Repeats that are dropped.
all-kept : (P : Bor (List ℕ) → Type 0) (k : Bor (List ℕ)) (xs : List (Bor (List ℕ))) → P k → AllByRecursion P xs → AllByRecursion P (dedup_from lent_eq k xs)
all-kept P k [] p h = (p, tt)
all-kept P k (x ∷ xs) p h = step (lent_eq x k) (all-kept P k xs p h.1) (all-kept P x xs h.0 h.1)
  where
    step : (t : Bool) → AllByRecursion P (dedup_from lent_eq k xs) → AllByRecursion P (dedup_from lent_eq x xs) → AllByRecursion P (cond t (dedup_from lent_eq k xs) (k ∷ dedup_from lent_eq x xs))
    step true a b = a
    step false a b = (p, b)

all-from-kept : (P : List ℕ → Type 0) (k : Bor (List ℕ)) (xs : List (Bor (List ℕ))) → AllByRecursion (λ x. P (lent x)) (dedup_from lent_eq k xs) → P (lent k) × AllByRecursion (λ x. P (lent x)) xs
all-from-kept P k [] h = h
all-from-kept P k (x ∷ xs) h = step (lent_eq x k) refl h (λ a. all-from-kept P k xs a) (λ b. all-from-kept P x xs b)
  where
    step : (t : Bool) → lent_eq x k ≡ t → AllByRecursion (λ x. P (lent x)) (cond t (dedup_from lent_eq k xs) (k ∷ dedup_from lent_eq x xs))
        → (AllByRecursion (λ x. P (lent x)) (dedup_from lent_eq k xs) → P (lent k) × AllByRecursion (λ x. P (lent x)) xs) → (AllByRecursion (λ x. P (lent x)) (dedup_from lent_eq x xs) → P (lent x) × AllByRecursion (λ x. P (lent x)) xs)
        → P (lent k) × (P (lent x) × AllByRecursion (λ x. P (lent x)) xs)
    step true e g a b = (let parts = a g in let same = (bytes_decides (lent x) (lent k)).0 e in (parts.0, (subst P (sym same) parts.0, parts.1)))
    step false e g a b = (g.0, b g.1)

all-dedup : (P : Bor (List ℕ) → Type 0) (xs : List (Bor (List ℕ))) → AllByRecursion P xs → AllByRecursion P (dedup lent_eq xs)
all-dedup P [] h = tt
all-dedup P (x ∷ xs) h = all-kept P x xs h.0 h.1

all-from-dedup : (P : List ℕ → Type 0) (xs : List (Bor (List ℕ))) → AllByRecursion (λ x. P (lent x)) (dedup lent_eq xs) → AllByRecursion (λ x. P (lent x)) xs
all-from-dedup P [] h = tt
all-from-dedup P (x ∷ xs) h = all-from-kept P x xs h

-- Words that were sorted, and of which repeats were dropped, are a set.
pub sorted-set : (words : List (List ℕ)) (found sorted kept : List (Bor (List ℕ))) → map lent found ≡ words → IsPermutation found sorted → IsSorted lent_cmp sorted → kept ≡ dedup lent_eq sorted → map lent kept ≡ word_set words
sorted-set words found sorted kept is moved rises drops =
    let there : (P : List ℕ → Type 0) → AllByRecursion P (map lent (dedup lent_eq sorted)) → AllByRecursion P (word_set words) = λ P h.
    all-with P [] words tt (subst (AllByRecursion P) is (all-of-lent P found (all-moved (λ x. P (lent x)) sorted found (IsPermutation-sym found sorted moved) (all-from-dedup P sorted (all-lent P (dedup lent_eq sorted) h))))) in
    let back : (P : List ℕ → Type 0) → AllByRecursion P (word_set words) → AllByRecursion P (map lent (dedup lent_eq sorted)) = λ P h.
    all-of-lent P (dedup lent_eq sorted) (all-dedup (λ x. P (lent x)) sorted (all-moved (λ x. P (lent x)) found sorted moved (all-lent P found (subst (AllByRecursion P) (sym is) (all-from-with P [] words h).1)))) in
    ap (map lent) drops
    ∙ same-sorted nat_list_cmp_total exact_bytes (map lent (dedup lent_eq sorted)) (word_set words) (sorted-lent (dedup lent_eq sorted) (IsStrictlySortedBy-dedup (on_texts lent) (λ x y. texts_ties x.now y.now) sorted rises))
    (sorted-with [] words (sorted_nil word_cmp)) there back
