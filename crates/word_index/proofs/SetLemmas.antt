-- Rising numbers: where one stands, and the numbers with one more and with one less.
use Rattle.std.proofs.Common.{◌≡◌, ℕ, zero, suc, ◌-◌, ◌<◌, ◌≤◌, Bool, true, false, cond, ◌||◌, List, [], ◌∷◌, length, get_or, Result, Ok, Err, is_ok, refl, sym, ap, subst, ◌∙◌, arith}
use Rattle.std.proofs.lemmas.Bool.Decides.{nat_tests}
use Rattle.std.proofs.lemmas.List.{get_or_default}
use Rattle.std.proofs.lemmas.List.Elements.{recursion_from_All}
use Rattle.std.proofs.lemmas.List.Filters.{dedup_is}
use Rattle.std.proofs.lemmas.List.Folds.{list_any_none}
use Rattle.std.proofs.lemmas.List.Kept.{IsStrictlySortedBy-dedup}
use Rattle.std.proofs.lemmas.List.Sorted.{searched, list_any-IsPermutation, IsPermutation-insert}
use Rattle.std.proofs.lemmas.Map.Keys.{below_from_sorted}
use Rattle.std.specs.Cmp.{nat_cmp_total}
use Rattle.std.specs.List.{insert, remove, list_any, dedup, dedup_from, AllByRecursion}
use Rattle.std.specs.List.Sorted.{IsStrictlySortedBy, IsSorted, IsPermutation, IsBinarySearchResult}
use Rattle.std.specs.List.Retain.{IsFiltered, DiffersFromLast}
use Rattle.std.specs.Ordering.{nat_cmp, eq_by_cmp}
use Rattle.std.specs.declared.cmp.Ordering.TheVariants.{Less}
use Rattle.std.specs.BTreeMap.{is_at}
use Rattle.word_index.specs.Postings.{IsListOf, IsPlaceOf, EndsBelow}
use Rattle.word_index.proofs.Bools.{cond_or}
use Rattle.word_index.proofs.ListLemmas.{at-same}

at-swap : (m n : ℕ) → is_at (nat_cmp m) n ≡ is_at (nat_cmp n) m
at-swap m n = grind (arith, nat_tests)

is-less : (a b : ℕ) → a < b → nat_cmp a b ≡ Less
is-less a b h = grind (arith, nat_tests)

not-at : (a b : ℕ) → nat_cmp a b ≡ Less → is_at (nat_cmp b) a ≡ false
not-at a b h = grind (arith, nat_tests)

not-at-less : (a b : ℕ) → nat_cmp a b ≡ Less → is_at (nat_cmp a) b ≡ false
not-at-less a b h = grind (arith, nat_tests)

apart : (a b : ℕ) → a < b → is_at (nat_cmp a) b ≡ false
apart a b h = grind (arith, nat_tests)

-- Where a search ends.
pub place-found : (xs : List ℕ) (n : ℕ) (r : Result ℕ ℕ) → IsStrictlySortedBy nat_cmp xs → IsBinarySearchResult (λ y. nat_cmp y n) xs r → IsPlaceOf xs n r
place-found xs n r sorted found = searched xs n r found (λ i j le lt. grind (arith, below_from_sorted xs i j 0 sorted, λ (same : i ≡ j). ap (λ (k : ℕ). get_or xs k 0) same))

pub place-last : (xs : List ℕ) (n : ℕ) → IsStrictlySortedBy nat_cmp xs → EndsBelow xs n → IsPlaceOf xs n (Err (length xs))
place-last xs n sorted ends = (omega arith, below, λ k le lt. absurd (omega arith))
  where
    below : (k : ℕ) → k < length xs → get_or xs k 0 < n
    below k lt = grind (arith, ends, below_from_sorted xs k (length xs - 1) 0 sorted, λ (same : k ≡ length xs - 1). ap (λ (i : ℕ). get_or xs i 0) same)

-- What holds of each number holds of each and one more, and of each but one.
all-insert : (P : ℕ → Type 0) (xs : List ℕ) (i n : ℕ) → AllByRecursion P xs → P n → AllByRecursion P (insert xs i n)
all-insert P xs zero n all one = (one, all)
all-insert P [] (suc i) n all one = (one, tt)
all-insert P (x ∷ xs) (suc i) n all one = (all.0, all-insert P xs i n all.1 one)

all-remove : (P : ℕ → Type 0) (xs : List ℕ) (i : ℕ) → AllByRecursion P xs → AllByRecursion P (remove xs i)
all-remove P [] zero all = tt
all-remove P [] (suc i) all = tt
all-remove P (x ∷ xs) zero all = all.1
all-remove P (x ∷ xs) (suc i) all = (all.0, all-remove P xs i all.1)

all-at : (P : ℕ → Type 0) (xs : List ℕ) (i : ℕ) → AllByRecursion P xs → i < length xs → P (get_or xs i 0)
all-at P [] i all h = absurd (omega arith)
all-at P (x ∷ xs) zero all h = all.0
all-at P (x ∷ xs) (suc i) all h = all-at P xs i all.1 (omega arith)

-- The numbers still rise.
pub sorted-insert : (xs : List ℕ) (i n : ℕ) → IsStrictlySortedBy nat_cmp xs → i ≤ length xs → ((k : ℕ) → k < i → get_or xs k 0 < n) → ((k : ℕ) → i ≤ k → k < length xs → n < get_or xs k 0) → IsStrictlySortedBy nat_cmp (insert xs i n)
unfolding IsStrictlySortedBy
sorted-insert xs zero n sorted le below above =
    (recursion_from_All (λ y. nat_cmp n y ≡ Less) xs (λ k d lt. is-less n (get_or xs k d) (subst (λ (y : ℕ). n < y) (get_or_default xs k 0 d lt) (above k (omega arith) lt))), sorted)
sorted-insert [] (suc i) n sorted le below above = absurd (omega arith)
sorted-insert (x ∷ xs) (suc i) n sorted le below above = (
  all-insert (λ y. nat_cmp x y ≡ Less) xs i n sorted.0 (is-less x n (below zero (omega arith))),
  sorted-insert xs i n sorted.1 (omega arith) (λ k lt. below (suc k) (omega arith)) (λ k le2 lt. above (suc k) (omega arith) (omega arith)),
)

pub sorted-remove : (xs : List ℕ) (i : ℕ) → IsStrictlySortedBy nat_cmp xs → IsStrictlySortedBy nat_cmp (remove xs i)
unfolding IsStrictlySortedBy
sorted-remove [] zero sorted = tt
sorted-remove [] (suc i) sorted = tt
sorted-remove (x ∷ xs) zero sorted = sorted.1
sorted-remove (x ∷ xs) (suc i) sorted = (all-remove (λ y. nat_cmp x y ≡ Less) xs i sorted.0, sorted-remove xs i sorted.1)

-- They have one number more.
or_swap : (a b : Bool) → (a || b) ≡ (b || a)
or_swap true true = refl
or_swap true false = refl
or_swap false true = refl
or_swap false false = refl

pub has-insert : (xs : List ℕ) (i n m : ℕ) → list_any (is_at (nat_cmp m)) (insert xs i n) ≡ cond (is_at (nat_cmp n) m) true (list_any (is_at (nat_cmp m)) xs)
has-insert xs i n m =
    sym (list_any-IsPermutation (is_at (nat_cmp m)) (n ∷ xs) (insert xs i n) (IsPermutation-insert xs i n))
    ∙ or_swap (is_at (nat_cmp m) n) (list_any (is_at (nat_cmp m)) xs)
    ∙ ap (λ (b : Bool). list_any (is_at (nat_cmp m)) xs || b) (at-swap m n)
    ∙ sym (cond_or (is_at (nat_cmp n) m) (list_any (is_at (nat_cmp m)) xs))

-- A number that is there.
any-at : (p : ℕ → Bool) (xs : List ℕ) (i : ℕ) → i < length xs → p (get_or xs i 0) ≡ true → list_any p xs ≡ true
any-at p [] i h passes = absurd (omega arith)
any-at p (x ∷ xs) zero h passes = ap (λ (b : Bool). b || list_any p xs) passes
any-at p (x ∷ xs) (suc i) h passes = ap (λ (b : Bool). p x || b) (any-at p xs i (omega arith) passes) ∙ all_true (p x)
  where
    all_true : (a : Bool) → (a || true) ≡ true
    all_true true = refl
    all_true false = refl

pub has-there : (xs : List ℕ) (i n : ℕ) → i < length xs → get_or xs i 0 ≡ n → list_any (is_at (nat_cmp n)) xs ≡ true
has-there xs i n h is = any-at (is_at (nat_cmp n)) xs i h (grind (arith, nat_tests))

pub has-same : (xs : List ℕ) (i n m : ℕ) → i < length xs → get_or xs i 0 ≡ n → list_any (is_at (nat_cmp m)) xs ≡ cond (is_at (nat_cmp n) m) true (list_any (is_at (nat_cmp m)) xs)
has-same xs i n m h is = go (is_at (nat_cmp n) m) refl
  where
    go : (b : Bool) → is_at (nat_cmp n) m ≡ b → list_any (is_at (nat_cmp m)) xs ≡ cond b true (list_any (is_at (nat_cmp m)) xs)
    go true here = subst (λ (k : ℕ). list_any (is_at (nat_cmp k)) xs ≡ true) (at-same n m here) (has-there xs i n h is)
    go false other = refl

-- A number that belongs into a gap is not there.
pub has-none : (xs : List ℕ) (i n : ℕ) → ((k : ℕ) → k < i → get_or xs k 0 < n) → ((k : ℕ) → i ≤ k → k < length xs → n < get_or xs k 0) → list_any (is_at (nat_cmp n)) xs ≡ false
has-none xs i n below above = list_any_none (is_at (nat_cmp n)) xs (λ k d lt. grind (arith, nat_tests, below k, above k, get_or_default xs k 0 d lt))

pub has-none-less : (xs : List ℕ) (i n m : ℕ) → ((k : ℕ) → k < i → get_or xs k 0 < n) → ((k : ℕ) → i ≤ k → k < length xs → n < get_or xs k 0) → list_any (is_at (nat_cmp m)) xs ≡ cond (is_at (nat_cmp n) m) false (list_any (is_at (nat_cmp m)) xs)
has-none-less xs i n m below above = go (is_at (nat_cmp n) m) refl
  where
    go : (b : Bool) → is_at (nat_cmp n) m ≡ b → list_any (is_at (nat_cmp m)) xs ≡ cond b false (list_any (is_at (nat_cmp m)) xs)
    go true here = subst (λ (k : ℕ). list_any (is_at (nat_cmp k)) xs ≡ false) (at-same n m here) (has-none xs i n below above)
    go false other = refl

-- They have one number less.
none-after : (x : ℕ) (xs : List ℕ) → AllByRecursion (λ y. nat_cmp x y ≡ Less) xs → list_any (is_at (nat_cmp x)) xs ≡ false
none-after x [] all = refl
none-after x (y ∷ xs) all = ap (λ (b : Bool). b || list_any (is_at (nat_cmp x)) xs) (not-at-less x y all.0) ∙ none-after x xs all.1

pub has-remove : (xs : List ℕ) (i n m : ℕ) → IsStrictlySortedBy nat_cmp xs → i < length xs → get_or xs i 0 ≡ n → list_any (is_at (nat_cmp m)) (remove xs i) ≡ cond (is_at (nat_cmp n) m) false (list_any (is_at (nat_cmp m)) xs)
unfolding IsStrictlySortedBy
has-remove [] i n m sorted h is = absurd (omega arith)
has-remove (x ∷ xs) zero n m sorted h is = go (is_at (nat_cmp n) m) refl
  where
    go : (b : Bool) → is_at (nat_cmp n) m ≡ b → list_any (is_at (nat_cmp m)) xs ≡ cond b false (is_at (nat_cmp m) x || list_any (is_at (nat_cmp m)) xs)
    go true here = subst (λ (k : ℕ). list_any (is_at (nat_cmp k)) xs ≡ false) (is ∙ at-same n m here) (none-after x xs sorted.0)
    go false other = ap (λ (b : Bool). b || list_any (is_at (nat_cmp m)) xs) (sym (at-swap m x ∙ ap (λ (k : ℕ). is_at (nat_cmp k) m) is ∙ other))
has-remove (x ∷ xs) (suc i) n m sorted h is =
    ap (λ (b : Bool). is_at (nat_cmp m) x || b) (has-remove xs i n m sorted.1 (omega arith) is) ∙ go (is_at (nat_cmp n) m) refl
  where
    less : nat_cmp x n ≡ Less
    less = subst (λ (k : ℕ). nat_cmp x k ≡ Less) is (all-at (λ y. nat_cmp x y ≡ Less) xs i sorted.0 (omega arith))

    go : (b : Bool) → is_at (nat_cmp n) m ≡ b → (is_at (nat_cmp m) x || cond b false (list_any (is_at (nat_cmp m)) xs)) ≡ cond b false (is_at (nat_cmp m) x || list_any (is_at (nat_cmp m)) xs)
    go true here = ap (λ (b : Bool). b || false) (subst (λ (k : ℕ). is_at (nat_cmp k) x ≡ false) (at-same n m here) (not-at x n less))
    go false other = refl

-- Numbers, sorted and each once.
any-dedup_from : (p : ℕ → Bool) (same : ℕ → ℕ → Bool) → ((x y : ℕ) → same x y ≡ true → p x ≡ p y) → (k : ℕ) (xs : List ℕ) → list_any p (dedup_from same k xs) ≡ (p k || list_any p xs)
any-dedup_from p same alike k [] = refl
any-dedup_from p same alike k (x ∷ xs) = go (same x k) refl (any-dedup_from p same alike k xs) (any-dedup_from p same alike x xs)
  where
    twice : (a b : Bool) → (a || b) ≡ (a || (a || b))
    twice true b = refl
    twice false b = refl

    go : (b : Bool) → same x k ≡ b → list_any p (dedup_from same k xs) ≡ (p k || list_any p xs) → list_any p (dedup_from same x xs) ≡ (p x || list_any p xs)
        → list_any p (cond b (dedup_from same k xs) (k ∷ dedup_from same x xs)) ≡ (p k || (p x || list_any p xs))
    go true is of_k of_x = of_k ∙ twice (p k) (list_any p xs) ∙ ap (λ (b : Bool). p k || (b || list_any p xs)) (sym (alike x k is))
    go false is of_k of_x = ap (λ (b : Bool). p k || b) of_x

any-dedup : (p : ℕ → Bool) (same : ℕ → ℕ → Bool) → ((x y : ℕ) → same x y ≡ true → p x ≡ p y) → (xs : List ℕ) → list_any p (dedup same xs) ≡ list_any p xs
any-dedup p same alike [] = refl
any-dedup p same alike (x ∷ xs) = any-dedup_from p same alike x xs

pub sorted-list : (given sorted kept : List ℕ) (same : ℕ → ℕ → Bool) → ((x y : ℕ) → same x y ≡ eq_by_cmp nat_cmp x y) → IsPermutation given sorted → IsSorted nat_cmp sorted → IsFiltered (DiffersFromLast same) [] sorted kept
    → IsListOf kept (λ n. list_any (is_at (nat_cmp n)) given)
sorted-list given sorted kept same ties moved rises filtered =
    let is : kept ≡ dedup same sorted = dedup_is same sorted kept filtered in
    record {
      rising = subst (IsStrictlySortedBy nat_cmp) (sym is) (IsStrictlySortedBy-dedup nat_cmp_total ties sorted rises);
      has = λ n.
          ap (list_any (is_at (nat_cmp n))) is ∙ any-dedup (is_at (nat_cmp n)) same (λ x y h. alike n x y (sym (ties x y) ∙ h)) sorted
          ∙ sym (list_any-IsPermutation (is_at (nat_cmp n)) given sorted moved);
    }
  where
    alike : (n x y : ℕ) → eq_by_cmp nat_cmp x y ≡ true → is_at (nat_cmp n) x ≡ is_at (nat_cmp n) y
    alike n x y h = ap (is_at (nat_cmp n)) (at-same x y h)

-- A number is there exactly if a search finds it.
pub place-has : (xs : List ℕ) (n : ℕ) (r : Result ℕ ℕ) → IsPlaceOf xs n r → is_ok r ≡ list_any (is_at (nat_cmp n)) xs
place-has xs n (Ok i) place = sym (has-there xs i n place.0 place.1)
place-has xs n (Err i) place = sym (has-none xs i n place.1 place.2)

-- A list into which a number was put, and one out of which it was taken.
pub inserted-sorted : (old xs new : List ℕ) (i n : ℕ) → xs ≡ old → new ≡ insert xs i n → IsStrictlySortedBy nat_cmp xs → IsPlaceOf old n (Err i) → IsStrictlySortedBy nat_cmp new
inserted-sorted old xs new i n same is sorted place =
    subst (IsStrictlySortedBy nat_cmp) (sym (is ∙ ap (λ (l : List ℕ). insert l i n) same))
    (sorted-insert old i n (subst (IsStrictlySortedBy nat_cmp) same sorted) place.0 place.1 place.2)

pub inserted-has : (old xs new : List ℕ) (i n : ℕ) → xs ≡ old → new ≡ insert xs i n → (m : ℕ) → list_any (is_at (nat_cmp m)) new ≡ cond (is_at (nat_cmp n) m) true (list_any (is_at (nat_cmp m)) old)
inserted-has old xs new i n same is m = ap (list_any (is_at (nat_cmp m))) (is ∙ ap (λ (l : List ℕ). insert l i n) same) ∙ has-insert old i n m

pub removed-has : (old xs new : List ℕ) (i n : ℕ) → xs ≡ old → new ≡ remove xs i → IsStrictlySortedBy nat_cmp xs → IsPlaceOf old n (Ok i) → (m : ℕ) → list_any (is_at (nat_cmp m)) new ≡ cond (is_at (nat_cmp n) m) false (list_any (is_at (nat_cmp m)) old)
removed-has old xs new i n same is sorted place m =
    ap (list_any (is_at (nat_cmp m))) (is ∙ ap (λ (l : List ℕ). remove l i) same) ∙ has-remove old i n m (subst (IsStrictlySortedBy nat_cmp) same sorted) place.0 place.1
