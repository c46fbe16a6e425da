-- Laws of strings, of trees, and of what is told with them.
use Rattle.std.specs.Prelude.{◌≡◌, ℕ, ◌<◌, ◌^◌, ◌||◌, ◌==◌, Bool, false, List, [], ◌∷◌, ◌++◌, length, codes}
use Rattle.mime_parts.specs.declared.part.Part.{Part}
use Rattle.imap_structure.specs.Strings.{string_of}
use Rattle.imap_structure.specs.Envelopes.{envelope_of}
use Rattle.imap_structure.specs.Forests.{forest_of, flattened}
use Rattle.imap_structure.specs.Structures.{structure_of}

-- The law of strings: a string says where it ends, and which bytes it is. Of two equal texts that
-- begin with strings the strings have the same bytes, and the same follows them.
abbrev pub StringsAreRead : Type 0
StringsAreRead = (a b rest other : List ℕ) → length a < 2 ^ 64 → length b < 2 ^ 64
    → string_of a ++ rest ≡ string_of b ++ other → (a ≡ b) × (rest ≡ other)

-- The law of trees: their parts, each before those below it, are those of which they were made.
abbrev pub ForestsAreParts : Type 0
ForestsAreParts = (parts : List Part) → flattened (forest_of parts) ≡ parts

-- The byte is a parenthesis, or one with which a string starts.
abbrev pub is_mark : ℕ → Bool
is_mark b = b == 40 || b == 41 || b == 34 || b == 123

-- Text of a reply in which parentheses balance outside of strings: bytes that mark nothing, strings
-- of any bytes, and such texts in parentheses, one after another (RFC 3501, sections 4.3 and 4.4).
pub data IsNested : List ℕ → Type 0 where
  Nothing : IsNested []
  Plain : (b : ℕ) (rest : List ℕ) → is_mark b ≡ false → IsNested rest → IsNested (b ∷ rest)
  String : (bytes rest : List ℕ) → IsNested rest → IsNested (string_of bytes ++ rest)
  Nested : (inner rest : List ℕ) → IsNested inner → IsNested rest
      → IsNested (codes "(" ++ inner ++ codes ")" ++ rest)

-- The law of parentheses: they balance in each structure and in each envelope.
pub record ParenthesesBalance : Type 0 where
  pub structures : (text : List ℕ) → IsNested (structure_of text)
  pub envelopes : (bytes : List ℕ) → IsNested (envelope_of bytes)
