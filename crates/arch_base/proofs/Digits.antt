-- Decimals and the values of digits.
use Rattle.std.proofs.Common.{false, not, ◌&&◌, ◌==◌, nat_lt, if◌then◌else◌, slice_index, MatchOption, Bool, drop-cons, ◌⊎◌, inl, inr, ◌≡◌, ◌≢◌, ◌<◌, ◌≤◌, ◌^◌, ◌+◌, ◌-◌, ◌*◌, ℕ, zero, suc, true, List, [], ◌∷◌, length, get_or, drop, Option, Some, None, IfSome, IfNone, refl, sym, ◌∙◌, ap, subst, arith}
use Rattle.std.proofs.lemmas.List.{at_drop_all}
use Rattle.std.specs.Fmt.{decimal as printed}
use Rattle.std.specs.Str.{all_ascii_digits}
use Rattle.std.proofs.lemmas.Fmt.{decimal-digits_value, digits_decimal, digits_value-decimal, decimal_nonempty, first_decimal, decimal_digit}
use Rattle.std.proofs.lemmas.Str.Parse.{IsNumeralModel, numerals_by_fold, tells_all_ascii_digits}
use Rattle.std.proofs.lemmas.Bool.Decides.{nat_tests}
use Rattle.arch_base.specs.Decimals.{read_on, IsDecimalValue, IsPadded, decimal_of}

-- `read_on` agrees with std's model of numerals.
pub digits_model : IsNumeralModel (λ ds. all_ascii_digits ds ≡ true) (read_on 0)
digits_model = numerals_by_fold _ tells_all_ascii_digits read_on (record {
  empty = λ n. refl;
  more = λ n c cs k. let e : 10 * n + (c - 48) ≡ n * 10 + (c - 48) = omega arith in ap (λ m. read_on m cs) e;
})

-- Digits without a leading zero are the decimal of their value.
pub printed-value : (text : List ℕ) (found : Option ℕ) → 0 < length text → (get_or text 0 0 ≡ 48 → length text ≡ 1) → IsDecimalValue text found → IfSome found (λ value. text ≡ printed value)
printed-value text None some lead h = tt
printed-value text (Some value) some lead h =
    let small : read_on 0 text < 2 ^ 64 = omega (arith, h.1, h.2) in
    sym (decimal-digits_value digits_model text h.0 some lead small) ∙ ap printed (sym h.1)

-- A text for which no value is found is not a decimal.
pub printed-none : (text : List ℕ) (found : Option ℕ) → IsDecimalValue text found → IfNone found ((value : ℕ) → value < 2 ^ 64 → text ≢ printed value)
printed-none text None h = λ value small is.
    let wide : 2 ^ 64 ≤ read_on 0 text = h (subst (λ ds. all_ascii_digits ds ≡ true) (sym is) (digits_decimal digits_model value small)) in
    let same : read_on 0 text ≡ value = ap (read_on 0) is ∙ digits_value-decimal digits_model value small in
    omega arith
printed-none text (Some value) h = tt

-- No decimal is empty, and only the decimal of zero starts with a zero.
pub printed-padded : (text : List ℕ) → (length text ≡ 0) ⊎ ((get_or text 0 0 ≡ 48) × (1 < length text)) → (value : ℕ) → value < 2 ^ 64 → text ≢ printed value
printed-padded text (inl empty) value small is = let some : 0 < length (printed value) = decimal_nonempty value small in omega (arith, ap length is)
printed-padded text (inr padded) zero small is = let one : length (printed 0) ≡ 1 = ap length (decimal_digit 0 (omega arith)) in omega (arith, padded.1, ap length is)
printed-padded text (inr padded) (suc n) small is =
    let first : 48 < get_or (printed (suc n)) 0 0 = first_decimal (suc n) (omega arith) small in
    omega (arith, padded.0, ap (λ ds. get_or ds 0 0) is)

-- Reading on never lowers the number.
pub le-read_on : (n : ℕ) (ds : List ℕ) → n ≤ read_on n ds
le-read_on n [] = omega arith
le-read_on n (c ∷ cs) = omega (arith, le-read_on (10 * n + (c - 48)) cs)

-- If one more digit makes the value too wide, the whole value is too wide.
pub read_on-wide : (n : ℕ) (i : ℕ) (text : List ℕ) (all : ℕ) → i < length text → read_on n (drop i text) ≡ all → 2 ^ 64 ≤ 10 * n + (get_or text i 0 - 48) → 2 ^ 64 ≤ all
read_on-wide n i text all here is wide =
    let next : read_on n (drop i text) ≡ read_on (10 * n + (get_or text i 0 - 48)) (drop (suc i) text) = ap (read_on n) (drop-cons text i 0 here) in
    omega (arith, le-read_on (10 * n + (get_or text i 0 - 48)) (drop (suc i) text))

-- Nothing is read on after the last byte.
pub read_on-end : (n : ℕ) (i : ℕ) (text : List ℕ) (all : ℕ) → length text ≤ i → read_on n (drop i text) ≡ all → n ≡ all
read_on-end n i text all past is = sym (at_drop_all (read_on n) text i past) ∙ is

-- An empty rest is all digits.
pub digits-end : (i : ℕ) (text : List ℕ) (all : Bool) → length text ≤ i → all_ascii_digits (drop i text) ≡ all → all ≡ true
digits-end i text all past is = sym is ∙ at_drop_all all_ascii_digits text i past

-- The text does not start with a zero that other bytes follow.
abbrev is_sound : List ℕ → Bool
is_sound text = not (slice_index text 0 == 48 && nat_lt 1 (length text))

-- The number if all four tests hold.
abbrev read_if : Bool → Bool → Bool → Bool → ℕ → Option ℕ
read_if a b d f value = if a && b && d && f then Some value else None

-- A padded text spells no number.
pub decimal_of-padded : (text : List ℕ) → IsPadded text true → decimal_of text ≡ None
decimal_of-padded text (inl empty) = let a : nat_lt 0 (length text) ≡ false = grind (arith, nat_tests) in rw a refl
decimal_of-padded text (inr padded) =
    let a : nat_lt 0 (length text) ≡ true = grind (arith, nat_tests, padded.1) in
    let b : is_sound text ≡ false = grind (arith, nat_tests, padded.0, padded.1) in
    ap (λ x. read_if x (is_sound text) (all_ascii_digits text) (nat_lt (read_on 0 text) 18446744073709551616) (read_on 0 text)) a
    ∙ ap (λ x. read_if true x (all_ascii_digits text) (nat_lt (read_on 0 text) 18446744073709551616) (read_on 0 text)) b
    ∙ refl

-- What is read from digits that are not padded.
read_value : (d f : Bool) (value : ℕ) (found : Option ℕ) → (f ≡ true → value < 2 ^ 64) → (f ≡ false → 2 ^ 64 ≤ value)
    → MatchOption found (d ≡ true → 2 ^ 64 ≤ value) (λ v. (d ≡ true) × (v ≡ value) × (v < 2 ^ 64)) → found ≡ read_if true true d f value
read_value true true value None small wide h = absurd (omega (arith, h refl, small refl))
read_value true false value None small wide h = refl
read_value false f value None small wide h = refl
read_value true true value (Some v) small wide h = ap Some h.1
read_value true false value (Some v) small wide h = absurd (omega (arith, h.1, h.2, wide refl))
read_value false f value (Some v) small wide h = absurd (cc h.0)

-- The value of digits that are not padded is the number that the text spells.
pub decimal_of-value : (text : List ℕ) (found : Option ℕ) → IsPadded text false → IsDecimalValue text found → found ≡ decimal_of text
decimal_of-value text found sound h =
    let a : nat_lt 0 (length text) ≡ true = grind (arith, nat_tests, sound.0) in
    let b : is_sound text ≡ true = grind (arith, nat_tests, sound.1) in
    read_value (all_ascii_digits text) (nat_lt (read_on 0 text) 18446744073709551616) (read_on 0 text) found (λ t. grind (arith, nat_tests)) (λ t. grind (arith, nat_tests)) h
    ∙ sym (ap (λ x. read_if x (is_sound text) (all_ascii_digits text) (nat_lt (read_on 0 text) 18446744073709551616) (read_on 0 text)) a
    ∙ ap (λ x. read_if true x (all_ascii_digits text) (nat_lt (read_on 0 text) 18446744073709551616) (read_on 0 text)) b)
