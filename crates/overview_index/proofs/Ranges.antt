-- Numbers from one on, up to one, and between two.
use Rattle.std.proofs.Common.{◌≡◌, ℕ, ◌+◌, ◌-◌, ◌<◌, ◌≤◌, Bool, true, false, cond, eqb, ◌&&◌, List, [], ◌∷◌, Option, Some, None, refl, sym, ap, ◌∙◌, arith}
use Rattle.std.specs.Prelude.{nat_lt, nat_le, count_by, is_some, IsSome}
use Rattle.std.specs.declared.cmp.Ordering.TheVariants.{Less, Equal, Greater}
use Rattle.std.specs.Ordering.{nat_cmp, is_lt, is_gt}
use Rattle.std.specs.Map.{keys_of}
use Rattle.mail_forms.specs.declared.row.Row.{Row}
use Rattle.overview_index.specs.Listings.{row_in, live_between}
use Rattle.std.proofs.lemmas.Bool.{ltb-true, ltb-false, leb-true, leb-false, eqb-true, eq-eqb}
use Rattle.std.proofs.lemmas.List.Sums.{sum_by-cons}
use Rattle.ranked_set.specs.Ranks.{rank_of}

-- The test by which ranks are counted.
lt_cases : (t u : Bool) → is_lt (cond t Less (cond u Equal Greater)) ≡ t
lt_cases true u = refl
lt_cases false true = refl
lt_cases false false = refl

less_is : (m n : ℕ) → is_lt (nat_cmp m n) ≡ nat_lt m n
less_is m n = lt_cases (nat_lt m n) (eqb m n)

-- A count with one number more.
count-cons : (test : ℕ → Bool) (m : ℕ) (ms : List ℕ) → count_by test (m ∷ ms) ≡ cond (test m) 1 0 + count_by test ms
count-cons test m ms = sum_by-cons (λ x. cond (test x) 1 0) m ms

-- Two tests that agree count the same.
pub count-same : (p q : ℕ → Bool) → ((m : ℕ) → p m ≡ q m) → (ms : List ℕ) → count_by p ms ≡ count_by q ms
count-same p q same [] = refl
count-same p q same (m ∷ ms) = count-cons p m ms ∙ rw (same m, count-same p q same ms) (sym (count-cons q m ms))

-- The numbers below one and those from it to another are those up to the latter.
between_step : (low high m : ℕ) (a b c : Bool) → nat_le low m ≡ a → nat_le m high ≡ b → nat_lt m low ≡ c → low ≤ high + 1 → cond (a && b) 1 0 + cond c 1 0 ≡ cond b 1 0
between_step low high m true true true p q r h = (let one = leb-true low m p in let two = ltb-true m low r in absurd (omega arith))
between_step low high m true true false p q r h = refl
between_step low high m true false true p q r h = (let one = leb-true low m p in let two = ltb-true m low r in absurd (omega arith))
between_step low high m true false false p q r h = refl
between_step low high m false true true p q r h = refl
between_step low high m false true false p q r h = (let one = leb-false low m p in let two = ltb-false m low r in absurd (omega arith))
between_step low high m false false true p q r h = (let one = leb-false m high q in let two = ltb-true m low r in absurd (omega arith))
between_step low high m false false false p q r h = refl

counted_between : (low high : ℕ) → low ≤ high + 1 → (ms : List ℕ) → count_by (λ m. nat_le low m && nat_le m high) ms + count_by (λ m. nat_lt m low) ms ≡ count_by (λ m. nat_le m high) ms
counted_between low high h [] = refl
counted_between low high h (m ∷ ms) =
    let all = between_step low high m (nat_le low m) (nat_le m high) (nat_lt m low) refl refl refl h in
    omega (arith, count-cons (λ m. nat_le low m && nat_le m high) m ms, count-cons (λ m. nat_lt m low) m ms, count-cons (λ m. nat_le m high) m ms, all, counted_between low high h ms)

-- No number is from one to a lesser one, and those up to the latter are below the former.
none_step : (low high m : ℕ) (a b c : Bool) → nat_le low m ≡ a → nat_le m high ≡ b → nat_lt m low ≡ c → high < low → (◌≡◌ {A = ℕ} (cond (a && b) 1 0) 0) × (cond b 1 0 ≤ cond c 1 0)
none_step low high m true true c p q r h = (let one = leb-true low m p in let two = leb-true m high q in absurd (omega arith))
none_step low high m true false c p q r h = (refl, omega arith)
none_step low high m false true true p q r h = (refl, omega arith)
none_step low high m false true false p q r h = (let one = leb-false low m p in let two = ltb-false m low r in absurd (omega arith))
none_step low high m false false c p q r h = (refl, omega arith)

none_between : (low high : ℕ) → high < low → (ms : List ℕ)
    → (count_by (λ m. nat_le low m && nat_le m high) ms ≡ 0) × (count_by (λ m. nat_le m high) ms ≤ count_by (λ m. nat_lt m low) ms)
none_between low high h [] = (refl, omega arith)
none_between low high h (m ∷ ms) =
    let here = none_step low high m (nat_le low m) (nat_le m high) (nat_lt m low) refl refl refl h in
    let ih = none_between low high h ms in
    let zero = here.0 in
    let less = here.1 in
    let none = ih.0 in
    let fewer = ih.1 in (
      omega (arith, count-cons (λ m. nat_le low m && nat_le m high) m ms, zero, none),
      omega (arith, count-cons (λ m. nat_le m high) m ms, count-cons (λ m. nat_lt m low) m ms, less, fewer),
    )

-- How many numbers are from one to another, by how many are up to the latter and how many are below
-- the former.
pub between_is : (low high : ℕ) (ms : List ℕ) → count_by (λ m. nat_le m high) ms - count_by (λ m. nat_lt m low) ms ≡ count_by (λ m. nat_le low m && nat_le m high) ms
between_is low high ms = by (nat_le low (high + 1)) refl
  where
    by : (t : Bool) → nat_le low (high + 1) ≡ t → count_by (λ m. nat_le m high) ms - count_by (λ m. nat_lt m low) ms ≡ count_by (λ m. nat_le low m && nat_le m high) ms
    by true e = omega (arith, counted_between low high (leb-true low (high + 1) e) ms)
    by false e =
        let above = leb-false low (high + 1) e in
        let none = none_between low high (omega arith) ms in
        let first = none.0 in
        let second = none.1 in
        omega (arith, first, second)

-- The rank of a number counts those below it.
pub rank_is : (ms : List ℕ) (n : ℕ) → rank_of nat_cmp ms n ≡ count_by (λ m. nat_lt m n) ms
rank_is ms n = count-same (λ m. is_lt (nat_cmp m n)) (λ m. nat_lt m n) (λ m. less_is m n) ms

up_to : (m n : ℕ) → nat_lt m (n + 1) ≡ nat_le m n
up_to m n = by (nat_lt m (n + 1)) (nat_le m n) refl refl
  where
    by : (t u : Bool) → nat_lt m (n + 1) ≡ t → nat_le m n ≡ u → t ≡ u
    by true true e f = refl
    by true false e f = (let one = ltb-true m (n + 1) e in let two = leb-false m n f in absurd (omega arith))
    by false true e f = (let one = ltb-false m (n + 1) e in let two = leb-true m n f in absurd (omega arith))
    by false false e f = refl

-- The rank of the next number counts those up to one.
pub rank_next : (ms : List ℕ) (n : ℕ) → rank_of nat_cmp ms (n + 1) ≡ count_by (λ m. nat_le m n) ms
rank_next ms n = rank_is ms (n + 1) ∙ count-same (λ m. nat_lt m (n + 1)) (λ m. nat_le m n) (λ m. up_to m n) ms

-- How many rows have a number from one to another, by the ranks of the former and of what follows the
-- latter.
pub live_is : (rows : List (ℕ × Row)) (numbers : List ℕ) (low high below up_to : ℕ) → numbers ≡ keys_of rows → below ≡ rank_of nat_cmp numbers low → up_to ≡ rank_of nat_cmp numbers (high + 1)
    → up_to - below ≡ live_between rows low high
live_is rows numbers low high below up_to n b u =
    rw (b, u, n, rank_is (keys_of rows) low, rank_next (keys_of rows) high) (between_is low high (keys_of rows))

-- The tests of the orders of numbers.
gt_cases : (t u : Bool) → t ≡ false → u ≡ false → is_gt (cond t Less (cond u Equal Greater)) ≡ true
gt_cases true u h k = absurd (cc)
gt_cases false true h k = absurd (cc)
gt_cases false false h k = refl

at_most : (m n : ℕ) → is_gt (nat_cmp m n) ≡ false → m ≤ n
at_most m n h = by (nat_lt m n) (eqb m n) refl refl
  where
    by : (t u : Bool) → nat_lt m n ≡ t → eqb m n ≡ u → m ≤ n
    by true u e f = (let less = ltb-true m n e in omega arith)
    by false true e f = (let same : m ≡ n = eqb-true m n f in omega arith)
    by false false e f = (let gt : is_gt (nat_cmp m n) ≡ true = gt_cases (nat_lt m n) (eqb m n) e f in absurd (cc))

not_above : (m n : ℕ) → m ≤ n → is_gt (nat_cmp m n) ≡ false
not_above m n h = by (nat_lt m n) (eqb m n) refl refl
  where
    by : (t u : Bool) → nat_lt m n ≡ t → eqb m n ≡ u → is_gt (cond t Less (cond u Equal Greater)) ≡ false
    by true u e f = refl
    by false true e f = refl
    by false false e f =
        (let least = ltb-false m n e in
        let same : m ≡ n = omega arith in
        let equal : eqb m n ≡ true = eq-eqb m n same in
        absurd (cc))

none_of : (found : Option Row) → (IsSome found → ⊥) → found ≡ None
none_of None h = refl
none_of (Some row) h = absurd (h refl)

-- A row is the last one up to a number, if no row between them is found after it.
pub greatest-is : (rows : List (ℕ × Row)) (n found : ℕ) (row : Row) → is_gt (nat_cmp found n) ≡ false → row_in rows found ≡ Some row
    → ((m : ℕ) → is_gt (nat_cmp m n) ≡ false → IsSome (row_in rows m) → is_lt (nat_cmp found m) ≡ false)
    → (found ≤ n) × IsSome (row_in rows found) × ((m : ℕ) → m ≤ n → found < m → row_in rows m ≡ None)
greatest-is rows n found row least here last = (at_most found n least, ap is_some here, none)
  where
    none : (m : ℕ) → m ≤ n → found < m → row_in rows m ≡ None
    none m le lt = none_of (row_in rows m) (λ some. apart (last m (not_above m n le) some))
      where
        apart : is_lt (nat_cmp found m) ≡ false → ⊥
        apart e = (let less = ltb-false found m (sym (less_is found m) ∙ e) in omega arith)
