-- Lists of numbers, and tests of lists.
use Rattle.std.proofs.Common.{◌≡◌, ℕ, zero, suc, ◌+◌, ◌<◌, Bool, true, false, cond, ◌&&◌, ◌||◌, List, [], ◌∷◌, ◌++◌, length, get_or, take, map, refl, sym, ap, ◌∙◌, arith}
use Rattle.std.proofs.lemmas.Bool.{or_parts, or_from, both_ways}
use Rattle.std.proofs.lemmas.Bool.Decides.{nat_tests}
use Rattle.std.proofs.lemmas.List.{append-nil}
use Rattle.std.proofs.lemmas.List.Elements.{filter_more}
use Rattle.std.proofs.lemmas.List.Folds.{list_any_more}
use Rattle.std.proofs.lemmas.Map.Lookups.{btree_set_from_contains, exact_unsigned}
use Rattle.std.proofs.lemmas.Map.Made.{is_member-filter}
use Rattle.std.proofs.lemmas.List.Kept.{IsStrictlySortedBy-filter}
use Rattle.std.specs.Cmp.{nat_cmp_total, eq_by_cmp_equiv}
use Rattle.std.specs.List.{list_any, list_all, filter}
use Rattle.std.specs.List.Sorted.{IsStrictlySortedBy}
use Rattle.std.specs.Ordering.{nat_cmp}
use Rattle.std.specs.BTreeMap.{is_at}
use Rattle.std.specs.BTreeSet.{BTreeSet}
use Rattle.word_index.specs.Kept.{has_number}
use Rattle.word_index.specs.Postings.{IsListOf}

-- A test of a list of what a function gives.
pub any-map : {X Y : Type 0} (p : Y → Bool) (f : X → Y) (xs : List X) → list_any p (map f xs) ≡ list_any (λ x. p (f x)) xs
any-map p f [] = refl
any-map p f (x ∷ xs) = ap (λ (b : Bool). p (f x) || b) (any-map p f xs)

pub all-same : {X : Type 0} (p q : X → Bool) → ((x : X) → p x ≡ q x) → (xs : List X) → list_all p xs ≡ list_all q xs
all-same p q same [] = refl
all-same p q same (x ∷ xs) = ap (λ (b : Bool). b && list_all p xs) (same x) ∙ ap (λ (b : Bool). q x && b) (all-same p q same xs)

-- What no element passes none of the first passes.
pub any_take : {X : Type 0} (p : X → Bool) (xs : List X) (i : ℕ) → list_any p xs ≡ false → list_any p (take i xs) ≡ false
any_take p xs zero h = refl
any_take p [] (suc i) h = refl
any_take p (x ∷ xs) (suc i) h =
    let parts = or_parts (p x) (list_any p xs) h in or_from (p x) (list_any p (take i xs)) parts.0 (any_take p xs i parts.1)

-- A number of one more number.
pub has_number-more : (words : List ℕ) (i w : ℕ) → i < length words → has_number (take (i + 1) words) w ≡ (has_number (take i words) w || is_at (nat_cmp (get_or words i 0)) w)
has_number-more words i w h = list_any_more (λ (held : ℕ). is_at (nat_cmp held) w) words i 0 h

pub has_number-take : (words : List ℕ) (i w : ℕ) → has_number words w ≡ false → has_number (take i words) w ≡ false
has_number-take words i w none = any_take (λ (held : ℕ). is_at (nat_cmp held) w) words i none

-- No numbers rise.
pub rising-none : IsStrictlySortedBy nat_cmp []
unfolding IsStrictlySortedBy
rising-none = tt

-- A list of the numbers that pass a test is one of those that pass a test which answers alike.
pub IsListOf-same : (list : List ℕ) (p q : ℕ → Bool) → ((n : ℕ) → p n ≡ q n) → IsListOf list p → IsListOf list q
IsListOf-same list p q same is = record { rising = is.rising; has = λ n. is.has n ∙ same n }

-- There is one such list.
pub one_list : (xs ys : List ℕ) (p : ℕ → Bool) → IsListOf xs p → IsListOf ys p → xs ≡ ys
one_list xs ys p is_xs is_ys =
    let s : BTreeSet ℕ = record { keys = xs } in
    let t : BTreeSet ℕ = record { keys = ys } in
    btree_set_from_contains nat_cmp_total s t is_xs.rising is_ys.rising (λ n. is_xs.has n ∙ sym (is_ys.has n)) exact_unsigned

-- Numbers that are at one place are one.
pub at-same : (n m : ℕ) → is_at (nat_cmp n) m ≡ true → n ≡ m
at-same n m h = grind (arith, both_ways)

-- A number is at its own place.
pub at-itself : (n : ℕ) → is_at (nat_cmp n) n ≡ true
at-itself n = grind (arith, nat_tests)

-- Those of a list that pass a second test.
pub IsListOf-filter : (list : List ℕ) (p q : ℕ → Bool) → IsListOf list p → IsListOf (filter q list) (λ n. p n && q n)
IsListOf-filter list p q is =
    record {
      rising = IsStrictlySortedBy-filter nat_cmp q list is.rising;
      has = λ n. is_member-filter (eq_by_cmp_equiv nat_cmp_total) q n (λ m h. ap q (at-same n m h)) list ∙ ap (λ (b : Bool). b && q n) (is.has n);
    }

-- One more number of a list, which passes a test or doesn't.
pub filter-kept : (test : ℕ → Bool) (xs : List ℕ) (i d : ℕ) → i < length xs → test (get_or xs i d) ≡ true → filter test (take (i + 1) xs) ≡ filter test (take i xs) ++ get_or xs i d ∷ []
filter-kept test xs i d h passes =
    filter_more test xs i d h ∙ ap (λ (b : Bool). filter test (take i xs) ++ cond b (get_or xs i d ∷ []) []) passes

pub filter-passed : (test : ℕ → Bool) (xs : List ℕ) (i d : ℕ) → i < length xs → test (get_or xs i d) ≡ false → filter test (take (i + 1) xs) ≡ filter test (take i xs)
filter-passed test xs i d h fails =
    filter_more test xs i d h ∙ ap (λ (b : Bool). filter test (take i xs) ++ cond b (get_or xs i d ∷ []) []) fails ∙ append-nil (filter test (take i xs))
