-- Strings in replies (RFC 3501, section 4.3).
use Rattle.std.specs.Prelude.{ℕ, Bool, ◌&&◌, ◌||◌, ◌==◌, not, nat_le, List, [], ◌∷◌, ◌++◌, length, Option, Some, None, codes, if◌then◌else◌}
use Rattle.std.specs.List.{list_all, flat_map}
use Rattle.std.specs.Fmt.{decimal}

-- The byte may stand in quotes: it is a space or printable ASCII, but no quote and no backslash.
abbrev pub is_quotable : ℕ → Bool
is_quotable b = nat_le 32 b && nat_le b 126 && not (b == 34 || b == 92)

-- What stands before the octets of a literal: their number in braces, and a line end.
abbrev pub literal_head : ℕ → List ℕ
literal_head len = codes "{" ++ decimal len ++ codes "}\r\n"

-- Octets as a literal.
unfoldable pub literal : List ℕ → List ℕ
literal octets = literal_head (length octets) ++ octets

-- Bytes in quotes.
abbrev pub in_quotes : List ℕ → List ℕ
in_quotes bytes = codes "\"" ++ bytes ++ codes "\""

-- Bytes as a string: in quotes if each of them may stand there, or else as a literal.
unfoldable pub string_of : List ℕ → List ℕ
string_of bytes = if list_all is_quotable bytes then in_quotes bytes else literal bytes

-- A string that may be absent: it is `NIL` then (RFC 3501, section 4.5).
abbrev pub nstring_of : Option (List ℕ) → List ℕ
nstring_of None = codes "NIL"
nstring_of (Some bytes) = string_of bytes

-- A string after a space.
abbrev pub spaced_string : List ℕ → List ℕ
spaced_string bytes = codes " " ++ string_of bytes

-- Strings in parentheses with spaces between them, or `NIL` without any (RFC 3501, section 9,
-- body-fld-param).
abbrev pub strings_of : List (List ℕ) → List ℕ
strings_of [] = codes "NIL"
strings_of (first ∷ others) =
    codes "(" ++ string_of first ++ flat_map spaced_string others ++ codes ")"
