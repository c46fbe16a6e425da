-- The octets that spell a text (RFC 3501, section 9, string and astring).
use Rattle.std.specs.Prelude.{◌≡◌, ◌<◌, ℕ, Bool, true, false, not, ◌||◌, ◌==◌, nat_lt, List, [], ◌∷◌, ◌++◌, length, Some, if◌then◌else◌, ◌⊎◌}
use Rattle.std.specs.List.{list_all}
use Rattle.imap_words.specs.Reading.{run_at}
use Rattle.imap_words.specs.Kinds.{is_digit, is_octet}
use Rattle.imap_words.specs.Numbers.{number_of}
use Rattle.imap_words.specs.Strings.{quoted_at, literal_at}

-- An octet of a text in quotes: 1 to 127, and no line end.
abbrev pub is_quoted_octet : ℕ → Bool
is_quoted_octet b = not (b == 0 || b == 10 || b == 13 || nat_lt 127 b)

-- A text with a backslash before each quote and each backslash.
abbrev pub escaped : List ℕ → List ℕ
escaped [] = []
escaped (b ∷ bs) = if b == 34 || b == 92 then 92 ∷ b ∷ escaped bs else b ∷ escaped bs

-- The octets are a text in quotes (RFC 3501, section 9, quoted).
pub record SpellsQuoted (text spelling : List ℕ) : Type 0 where
  pub octets : list_all is_quoted_octet text ≡ true
  pub spelled : spelling ≡ 34 ∷ (escaped text ++ 34 ∷ [])

-- Some octets spell the text, and come first.
pub record BeginsQuoted (octets text rest : List ℕ) : Type 0 where
  pub spelling : List ℕ
  pub is : SpellsQuoted text spelling
  pub first : octets ≡ spelling ++ rest

-- What spells a text is read as it, and what is read as a text begins with what spells it.
pub record QuotedTextsAreRead : Type 0 where
  pub read : (text spelling rest : List ℕ) → SpellsQuoted text spelling
      → quoted_at (spelling ++ rest) ≡ Some (text, rest)
  pub spelled : (octets text rest : List ℕ) → quoted_at octets ≡ Some (text, rest)
      → BeginsQuoted octets text rest

-- No octet of a kind comes first.
abbrev pub StopsKind : (ℕ → Bool) → List ℕ → Type 0
StopsKind kind [] = Unit {0}
StopsKind kind (b ∷ bs) = kind b ≡ false

-- The text is a run of octets of a kind, before octets that begin with none.
pub record SpellsBare (kind : ℕ → Bool) (octets text rest : List ℕ) : Type 0 where
  pub of_kind : list_all kind text ≡ true
  pub some : 0 < length text
  pub first : octets ≡ text ++ rest
  pub stops : StopsKind kind rest

-- A bare text is read exactly where the octets begin with it, and no further octet of its kind follows.
pub record BareTextsAreRead : Type 0 where
  pub read : (kind : ℕ → Bool) (octets text rest : List ℕ) → SpellsBare kind octets text rest
      → run_at kind octets ≡ Some (text, rest)
  pub spelled : (kind : ℕ → Bool) (octets text rest : List ℕ) → run_at kind octets ≡ Some (text, rest)
      → SpellsBare kind octets text rest

-- A line end (RFC 3501, section 9, CRLF); a line feed alone is one as well.
abbrev pub SpellsLineEnd : List ℕ → Type 0
SpellsLineEnd ending = (ending ≡ 10 ∷ []) ⊎ (ending ≡ 13 ∷ 10 ∷ [])

-- The octets are the number of a text's octets in braces, a line end and the text (RFC 3501, section
-- 9, literal).
pub record SpellsLiteral (text spelling : List ℕ) : Type 0 where
  pub digits : List ℕ
  pub ending : List ℕ
  pub are_digits : list_all is_digit digits ≡ true
  pub some : 0 < length digits
  pub counted : number_of digits ≡ Some (length text)
  pub ends : SpellsLineEnd ending
  pub octets : list_all is_octet text ≡ true
  pub spelled : spelling ≡ 123 ∷ (digits ++ 125 ∷ (ending ++ text))

-- Some octets are a literal of the text, and come first.
pub record BeginsLiteral (octets text rest : List ℕ) : Type 0 where
  pub spelling : List ℕ
  pub is : SpellsLiteral text spelling
  pub first : octets ≡ spelling ++ rest

-- A literal of a text is read as it, and what is read as a literal's text begins with one.
pub record LiteralTextsAreRead : Type 0 where
  pub read : (text spelling rest : List ℕ) → SpellsLiteral text spelling
      → literal_at (spelling ++ rest) ≡ Some (text, rest)
  pub spelled : (octets text rest : List ℕ) → literal_at octets ≡ Some (text, rest)
      → BeginsLiteral octets text rest
