-- Quoted strings and comments as whole texts (RFC 5322, sections 3.2.1, 3.2.2 and 3.2.4).
use Rattle.std.specs.Prelude.{◌≡◌, ℕ, Bool, true, ◌&&◌, not, ◌==◌, List, [], ◌∷◌, ◌++◌}
use Rattle.std.specs.List.{flat_map}

-- A part of the inside of a quoted string: a byte, or a backslash and the byte that it quotes.
pub data QuotedPart : Type 0 where
  Literal : ℕ → QuotedPart
  Escaped : ℕ → QuotedPart

-- The inside of a comment: nothing, or a byte, a backslash with the byte that it quotes, or another
-- comment, and then more.
pub data CommentInside : Type 0 where
  Empty : CommentInside
  TextThen : ℕ → CommentInside → CommentInside
  EscapedThen : ℕ → CommentInside → CommentInside
  CommentThen : CommentInside → CommentInside → CommentInside

-- A byte that is itself in a quoted string: any but `"` and a backslash.
abbrev pub is_quoted_byte : ℕ → Bool
is_quoted_byte b = not (b == 34) && not (b == 92)

-- A byte that is itself in a comment: any but `(`, `)` and a backslash.
abbrev pub is_comment_byte : ℕ → Bool
is_comment_byte b = not (b == 40) && not (b == 41) && not (b == 92)

-- Each byte that isn't after a backslash may be itself in a quoted string.
abbrev pub MayStandQuoted : List QuotedPart → Type 0
MayStandQuoted [] = Unit {0}
MayStandQuoted (Literal b ∷ parts) = (is_quoted_byte b ≡ true) × MayStandQuoted parts
MayStandQuoted (Escaped b ∷ parts) = MayStandQuoted parts

-- Each byte that isn't after a backslash may be itself in a comment.
abbrev pub MayStandInComment : CommentInside → Type 0
MayStandInComment Empty = Unit {0}
MayStandInComment (TextThen b more) = (is_comment_byte b ≡ true) × MayStandInComment more
MayStandInComment (EscapedThen b more) = MayStandInComment more
MayStandInComment (CommentThen inner more) = MayStandInComment inner × MayStandInComment more

-- The bytes of these parts.
abbrev pub quoted_bytes : List QuotedPart → List ℕ
quoted_bytes [] = []
quoted_bytes (Literal b ∷ parts) = b ∷ quoted_bytes parts
quoted_bytes (Escaped b ∷ parts) = 92 ∷ b ∷ quoted_bytes parts

-- The bytes of the inside of a comment.
abbrev pub inside_bytes : CommentInside → List ℕ
inside_bytes Empty = []
inside_bytes (TextThen b more) = b ∷ inside_bytes more
inside_bytes (EscapedThen b more) = 92 ∷ b ∷ inside_bytes more
inside_bytes (CommentThen inner more) = 40 ∷ (inside_bytes inner ++ 41 ∷ inside_bytes more)

-- A piece of a value: a byte outside, a whole quoted string, or a whole comment.
pub data ValuePiece : Type 0 where
  Byte : ℕ → ValuePiece
  QuotedString : List QuotedPart → ValuePiece
  CommentText : CommentInside → ValuePiece

-- The bytes of a piece: a quoted string between `"` and `"`, a comment between `(` and `)`.
abbrev pub piece_bytes : ValuePiece → List ℕ
piece_bytes (Byte b) = b ∷ []
piece_bytes (QuotedString parts) = 34 ∷ (quoted_bytes parts ++ 34 ∷ [])
piece_bytes (CommentText inside) = 40 ∷ (inside_bytes inside ++ 41 ∷ [])

-- The bytes of pieces, one after another.
abbrev pub spelled_pieces : List ValuePiece → List ℕ
spelled_pieces pieces = flat_map piece_bytes pieces

-- A piece whose bytes outside of quoted strings and comments pass a test.
abbrev pub IsPiece : (ℕ → Bool) → ValuePiece → Type 0
IsPiece passes (Byte b) = passes b ≡ true
IsPiece passes (QuotedString parts) = MayStandQuoted parts
IsPiece passes (CommentText inside) = MayStandInComment inside

-- Pieces whose bytes outside of quoted strings and comments pass a test.
abbrev pub ArePieces : (ℕ → Bool) → List ValuePiece → Type 0
ArePieces passes [] = Unit {0}
ArePieces passes (piece ∷ pieces) = IsPiece passes piece × ArePieces passes pieces

-- A byte that begins neither a quoted string nor a comment.
abbrev pub is_outer_byte : ℕ → Bool
is_outer_byte b = not (b == 34) && not (b == 40)
