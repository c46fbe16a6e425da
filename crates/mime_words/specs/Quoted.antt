-- The encoding Q (RFC 2047, section 4.2), read from any bytes.
use Rattle.std.specs.Prelude.{ℕ, ◌+◌, ◌*◌, ◌==◌, List, [], ◌∷◌, Option, Some, None, if◌then◌else◌}
use Rattle.hex.specs.Hex.{hex_digit_value}

-- The byte that two hexadecimal digits spell, by their values.
abbrev pub spelled : Option ℕ → Option ℕ → Option ℕ
spelled None low = None
spelled (Some high) None = None
spelled (Some high) (Some low) = Some (16 * high + low)

-- The byte that `=` and two digits at the front encode, if the bytes start with them.
abbrev pub escape : List ℕ → Option ℕ
escape (b ∷ x ∷ y ∷ bs) = if b == 61 then spelled (hex_digit_value x) (hex_digit_value y) else None
escape _ = None

-- An underscore is a space, and any other byte is itself.
abbrev pub plain_byte : ℕ → ℕ
plain_byte b = if b == 95 then 32 else b

-- The bytes of a text whose first byte starts an escape, or is plain.
abbrev pub escape_or_plain : Option ℕ → ℕ → List ℕ → List ℕ → List ℕ
escape_or_plain None b after_byte after_escape = plain_byte b ∷ after_byte
escape_or_plain (Some byte) b after_byte after_escape = byte ∷ after_escape

-- `=` and two digits are a byte, an underscore is a space, and all other bytes stay, including any
-- other `=`.
abbrev pub unquoted : List ℕ → List ℕ
unquoted [] = []
unquoted (b ∷ []) = plain_byte b ∷ []
unquoted (b ∷ x ∷ []) = plain_byte b ∷ plain_byte x ∷ []
unquoted (b ∷ x ∷ y ∷ bs) =
    escape_or_plain (escape (b ∷ x ∷ y ∷ bs)) b (unquoted (x ∷ y ∷ bs)) (unquoted bs)
