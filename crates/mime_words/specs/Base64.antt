-- Base64 (RFC 4648, section 4), read from a text that may have other bytes in it.
use Rattle.std.specs.Prelude.{ℕ, ◌+◌, ◌-◌, ◌*◌, ◌/◌, ◌%◌, Bool, ◌&&◌, ◌==◌, nat_le, List, [], ◌∷◌, Option, Some, None, is_some, if◌then◌else◌}
use Rattle.std.specs.List.{cons_option}

-- The six bits that a byte of the alphabet encodes (RFC 4648, section 4, table 1).
abbrev pub six_bits : ℕ → Option ℕ
six_bits b =
    if nat_le 65 b && nat_le b 90 then Some (b - 65)
    else (if nat_le 97 b && nat_le b 122 then Some (b - 71)
    else (if nat_le 48 b && nat_le b 57 then Some (b + 4)
    else (if b == 43 then Some 62
    else (if b == 47 then Some 63 else None))))

-- Whether a byte is in the alphabet.
abbrev pub is_symbol : ℕ → Bool
is_symbol b = is_some (six_bits b)

-- The six bits of each byte of the alphabet before the first `=`. Other bytes are skipped (RFC
-- 2045, section 6.8).
abbrev pub sextets : List ℕ → List ℕ
sextets [] = []
sextets (b ∷ bs) = if b == 61 then [] else cons_option (six_bits b) (sextets bs)

-- Four groups of six bits are three bytes. At the end, three groups are two bytes and two groups
-- are one byte. The bits that are left over are dropped, and so is a single group (RFC 4648,
-- section 4).
abbrev pub packed : List ℕ → List ℕ
packed [] = []
packed (a ∷ []) = []
packed (a ∷ b ∷ []) = (4 * a + b / 16) ∷ []
packed (a ∷ b ∷ c ∷ []) = (4 * a + b / 16) ∷ (b % 16 * 16 + c / 4) ∷ []
packed (a ∷ b ∷ c ∷ d ∷ rest) =
    (4 * a + b / 16) ∷ (b % 16 * 16 + c / 4) ∷ (c % 4 * 64 + d) ∷ packed rest

-- The bytes that a base64 text encodes.
unfoldable pub unbase64 : List ℕ → List ℕ
unbase64 text = packed (sextets text)
