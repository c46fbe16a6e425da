-- Names of archives.
use Rattle.std.specs.Prelude.{◌≡◌, ℕ, ◌-◌, ◌≤◌, Bool, true, false, ◌&&◌, ◌||◌, ◌==◌, nat_le, List, length, slice_index}
use Rattle.std.specs.List.{AllPass}

-- The byte is a lower-case ASCII letter or a digit.
abbrev pub is_letter_or_digit : ℕ → Bool
is_letter_or_digit c = (nat_le 97 c && nat_le c 122) || (nat_le 48 c && nat_le c 57)

-- The byte is a lower-case ASCII letter, a digit, `-`, `_` or `.`.
abbrev pub is_name_byte : ℕ → Bool
is_name_byte c = is_letter_or_digit c || c == 45 || c == 95 || c == 46

-- A name has 1 to 64 bytes that a name may have. The first is a letter or a digit, and the last is
-- not a dot.
pub record IsArchiveName (text : List ℕ) : Type 0 where
  pub nonempty : 1 ≤ length text
  pub short : length text ≤ 64
  pub bytes : AllPass is_name_byte text
  pub first : is_letter_or_digit (slice_index text 0) ≡ true
  pub last : (slice_index text (length text - 1) == 46) ≡ false
