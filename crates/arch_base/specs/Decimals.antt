-- Decimals and their values.
use Rattle.std.specs.Prelude.{◌≡◌, ◌⊎◌, ℕ, ◌+◌, ◌-◌, ◌*◌, ◌^◌, ◌<◌, ◌≤◌, Bool, true, false, not, ◌&&◌, ◌==◌, nat_lt, if◌then◌else◌, List, [], ◌∷◌, length, slice_index, Option, Some, None, MatchOption}
use Rattle.std.specs.Str.{all_ascii_digits}

-- The value of digits that are appended to the decimal of `n`.
abbrev pub read_on : ℕ → List ℕ → ℕ
read_on n [] = n
read_on n (c ∷ cs) = read_on (10 * n + (c - 48)) cs

-- The text is `0`, or digits without a leading zero, and its value is below 2^64.
abbrev pub is_decimal : List ℕ → Bool
is_decimal text =
    nat_lt 0 (length text) && not (slice_index text 0 == 48 && nat_lt 1 (length text))
    && all_ascii_digits text && nat_lt (read_on 0 text) 18446744073709551616

-- The number that a text spells, if it is a decimal.
abbrev pub decimal_of : List ℕ → Option ℕ
decimal_of text = if is_decimal text then Some (read_on 0 text) else None

-- The value of a text of digits. None only if a byte is not a digit, or the value is 2^64 or more.
abbrev pub IsDecimalValue : List ℕ → Option ℕ → Type 0
IsDecimalValue text found =
    MatchOption found (all_ascii_digits text ≡ true → 2 ^ 64 ≤ read_on 0 text)
    (λ value. (all_ascii_digits text ≡ true) × (value ≡ read_on 0 text) × (value < 2 ^ 64))

-- True: the text is empty, or starts with a zero and has more bytes. False: neither is so.
abbrev pub IsPadded : List ℕ → Bool → Type 0
IsPadded text true = (length text ≡ 0) ⊎ ((slice_index text 0 ≡ 48) × (1 < length text))
IsPadded text false = (0 < length text) × (slice_index text 0 ≡ 48 → length text ≡ 1)
