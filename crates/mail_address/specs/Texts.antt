-- The texts of names and addresses, by the words and pieces that spell them.
use Rattle.std.specs.Prelude.{◌≡◌, ◌<◌, ℕ, Bool, ◌&&◌, not, ◌==◌, List, [], ◌∷◌, ◌++◌, length, replicate}
use Rattle.std.specs.List.{All, flat_map}
use Rattle.mail_address.specs.Words.{joined_words, name_text, address_text}
use Rattle.mail_address.specs.Grammar.{ValuePiece, piece_bytes, spelled_pieces, IsPiece, ArePieces, is_outer_byte}
use Rattle.mail_address.specs.Mailboxes.{HasNo, said_in_name, address_said}

-- A word: one byte or more, and no space.
abbrev pub IsSpacelessWord : List ℕ → Type 0
IsSpacelessWord word = (0 < length word) × HasNo 32 word

-- A word after one space and so many more.
abbrev pub spread : ℕ × List ℕ → List ℕ
spread part = 32 ∷ (replicate part.0 32 ++ part.1)

-- Words that stand any number of spaces apart are joined by one space, and spaces at both ends are
-- removed.
abbrev pub WordsAreJoined : Type 0
WordsAreJoined =
    (first : List ℕ) (more : List (ℕ × List ℕ)) (front end : ℕ) → IsSpacelessWord first
    → All (λ (part : ℕ × List ℕ). IsSpacelessWord part.1) more
    → joined_words (replicate front 32 ++ (first ++ (flat_map spread more ++ replicate end 32)))
    ≡ first ++ flat_map (λ (part : ℕ × List ℕ). 32 ∷ part.1) more

-- Spaces alone are no words.
abbrev pub SpacesAreNoWords : Type 0
SpacesAreNoWords = (n : ℕ) → joined_words (replicate n 32) ≡ []

-- A part of a name: a piece, or a backslash outside and the byte that it quotes.
pub data NamePart : Type 0 where
  Whole : ValuePiece → NamePart
  Taken : ℕ → NamePart

-- A byte that is itself in a name, outside of quoted strings and comments: any but `"`, `(` and a
-- backslash.
abbrev pub is_name_byte : ℕ → Bool
is_name_byte b = is_outer_byte b && not (b == 92)

-- Each part is one that a name may have.
abbrev pub AreNameParts : List NamePart → Type 0
AreNameParts [] = Unit {0}
AreNameParts (Whole piece ∷ parts) = IsPiece is_name_byte piece × AreNameParts parts
AreNameParts (Taken b ∷ parts) = AreNameParts parts

-- The bytes of such a part.
abbrev pub part_bytes : NamePart → List ℕ
part_bytes (Whole piece) = piece_bytes piece
part_bytes (Taken b) = 92 ∷ b ∷ []

-- What a part of a name says.
abbrev pub part_said : NamePart → List ℕ
part_said (Whole piece) = said_in_name piece
part_said (Taken b) = b ∷ []

-- The text of a name is what its parts say, its words joined.
abbrev pub NameTextIsSaid : Type 0
NameTextIsSaid =
    (parts : List NamePart) → AreNameParts parts
    → name_text (flat_map part_bytes parts) ≡ joined_words (flat_map part_said parts)

-- The text of an address is what its pieces say.
abbrev pub AddressTextIsSaid : Type 0
AddressTextIsSaid = (pieces : List ValuePiece) → ArePieces is_outer_byte pieces
    → address_text (spelled_pieces pieces) ≡ address_said pieces
