-- Numbers of commands (RFC 3501, section 9, number and nz-number).
use Rattle.std.specs.Prelude.{ℕ, ◌+◌, ◌-◌, ◌*◌, Bool, ◌&&◌, ◌==◌, nat_le, List, [], ◌∷◌, length, drop, slice_index, Option, Some, None, if◌then◌else◌}
use Rattle.std.specs.List.{prefix_len}
use Rattle.arch_base.specs.Decimals.{decimal_of}
use Rattle.imap_words.specs.Kinds.{is_digit}
use Rattle.imap_words.specs.Reading.{◌>>=◌, with_rest, run_at}

-- The number, if it has at most 32 bits.
abbrev pub in_32_bits : Option ℕ → Option ℕ
in_32_bits None = None
in_32_bits (Some n) = if nat_le n 4294967295 then Some n else None

-- The digit 0.
abbrev pub is_zero : ℕ → Bool
is_zero b = b == 48

-- The word without the zeros that come first.
abbrev pub without_zeros : List ℕ → List ℕ
without_zeros word = drop (prefix_len is_zero word) word

-- The number that digits spell which don't start with a zero. No digits spell 0.
abbrev pub number_in : List ℕ → Option ℕ
number_in digits = if length digits == 0 then Some 0 else in_32_bits (decimal_of digits)

-- The number that a word of digits spells. Any many zeros may come first.
abbrev pub number_of : List ℕ → Option ℕ
number_of word = number_in (without_zeros word)

-- The number that a word spells which doesn't start with a zero.
abbrev pub nz_number_of : List ℕ → Option ℕ
nz_number_of word = if slice_index word 0 == 48 then None else in_32_bits (decimal_of word)

-- The number at the front (number).
unfoldable pub number_at : List ℕ → Option (ℕ × List ℕ)
number_at octets = do
  word ← run_at is_digit octets
  n ← number_of word.0
  Some (n, word.1)

-- The number at the front, which doesn't start with a zero (nz-number).
unfoldable pub nz_number_at : List ℕ → Option (ℕ × List ℕ)
nz_number_at octets = do
  word ← run_at is_digit octets
  n ← nz_number_of word.0
  Some (n, word.1)

-- The number that two digits spell.
abbrev pub two_digits : ℕ → ℕ → Option ℕ
two_digits high low =
    if is_digit high && is_digit low then Some ((high - 48) * 10 + (low - 48)) else None

-- The number of the two digits at the front (2DIGIT).
abbrev pub pair_at : List ℕ → Option (ℕ × List ℕ)
pair_at (a ∷ b ∷ rest) = with_rest rest (two_digits a b)
pair_at _ = None

-- A space and the digit after it, if a space comes first, and two digits otherwise (date-day-fixed).
abbrev pub padded_pair_at : List ℕ → Option (ℕ × List ℕ)
padded_pair_at (a ∷ b ∷ rest) = with_rest rest (two_digits (if a == 32 then 48 else a) b)
padded_pair_at _ = None

-- The number of the four digits at the front (4DIGIT).
unfoldable pub four_at : List ℕ → Option (ℕ × List ℕ)
four_at octets = do
  high ← pair_at octets
  low ← pair_at high.1
  Some (high.0 * 100 + low.0, low.1)

-- The number that one digit spells, or two (date-day).
abbrev pub day_of : List ℕ → Option ℕ
day_of (low ∷ []) = two_digits 48 low
day_of (high ∷ low ∷ []) = two_digits high low
day_of _ = None
