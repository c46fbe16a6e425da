-- Ids of messages in addresses (RFC 3986, sections 2.1 to 2.3).
use Rattle.std.specs.Prelude.{ℕ, ◌-◌, ◌/◌, ◌%◌, Bool, true, ◌||◌, ◌==◌, List, [], ◌∷◌, length, slice_range, if◌then◌else◌}
use Rattle.std.specs.List.{flat_map}
use Rattle.std.specs.Char.{is_ascii_alphanumeric}
use Rattle.std.specs.Fmt.{digit_glyph}

-- The byte stands for itself: it is an ASCII letter, a digit, or one of `-._~@`.
abbrev pub is_plain : ℕ → Bool
is_plain b = is_ascii_alphanumeric b || b == 45 || b == 46 || b == 95 || b == 126 || b == 64

-- A byte in an address: itself, or `%` and its two upper-case hexadecimal digits.
abbrev pub in_address : ℕ → List ℕ
in_address b = if is_plain b then b ∷ []
    else 37 ∷ digit_glyph true (b / 16) ∷ digit_glyph true (b % 16) ∷ []

-- Bytes in an address.
unfoldable pub escaped_bytes : List ℕ → List ℕ
escaped_bytes bytes = flat_map in_address bytes

-- The bytes between the first and the last one.
abbrev pub inside : List ℕ → List ℕ
inside id = slice_range id 1 (length id - 1)

-- The id of a message in an address: without its brackets.
abbrev pub address_of : List ℕ → List ℕ
address_of id = escaped_bytes (inside id)
