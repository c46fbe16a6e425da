-- The text of a value with encoded words (RFC 2047, sections 2 and 6).
use Rattle.std.specs.Prelude.{ℕ, Bool, true, false, ◌&&◌, ◌||◌, not, ◌==◌, List, [], ◌∷◌, ◌++◌, Option, Some, None, is_some, if◌then◌else◌}
use Rattle.std.specs.List.{flat_map, list_all}
use Rattle.std.specs.Str.{encode_utf8_all}
use Rattle.std.specs.Str.Lossy.{utf8_lossy}
use Rattle.mime_words.specs.declared.charset.Charset.{Charset}
use Rattle.mime_words.specs.declared.charset.Charset.TheVariants.{Utf8, UsAscii, Latin1}
use Rattle.mime_words.specs.Words.{WordPiece, pieces}

-- The byte is a space.
abbrev pub is_space : ℕ → Bool
is_space b = b == 32

-- All bytes are spaces.
abbrev pub is_blank : List ℕ → Bool
is_blank bytes = list_all is_space bytes

-- The piece is an encoded word.
abbrev pub is_word : WordPiece → Bool
is_word piece = is_some piece.charset

-- The piece is text outside of words, and all of it is spaces.
abbrev pub is_gap : WordPiece → Bool
is_gap piece = not (is_word piece) && is_blank piece.bytes

-- The pieces start with spaces, or none, and then a word.
abbrev pub reaches_word : List WordPiece → Bool
reaches_word [] = false
reaches_word (piece ∷ later) = is_word piece || (is_gap piece && reaches_word later)

-- The pieces without the spaces between two words (RFC 2047, section 6.2). The flag says that a
-- word precedes these pieces, with nothing between, or with spaces that were dropped.
abbrev pub without_gaps : Bool → List WordPiece → List WordPiece
without_gaps after_word [] = []
without_gaps after_word (piece ∷ later) =
    if after_word && is_gap piece && reaches_word later then without_gaps true later
    else piece ∷ without_gaps (is_word piece) later

-- Both are the same charset, or both are none.
abbrev pub same_charset : Option Charset → Option Charset → Bool
same_charset None None = true
same_charset (Some a) None = false
same_charset (Some Utf8) (Some Utf8) = true
same_charset (Some UsAscii) (Some UsAscii) = true
same_charset (Some Latin1) (Some Latin1) = true
same_charset _ _ = false

-- A piece before others. It is joined with the first of them if both have the same charset, or both
-- have none.
abbrev pub before : WordPiece → List WordPiece → List WordPiece
before piece [] = piece ∷ []
before piece (first ∷ later) =
    if same_charset piece.charset first.charset
    then record { charset = piece.charset; bytes = piece.bytes ++ first.bytes } ∷ later
    else piece ∷ first ∷ later

-- Neighbours of one charset are joined, so that a character may be split between them.
abbrev pub joined : List WordPiece → List WordPiece
joined [] = []
joined (piece ∷ later) = before piece (joined later)

-- A byte of ISO-8859-1 is the character with that number. All other bytes are UTF-8, with U+FFFD
-- for those that aren't.
abbrev pub read_as : Option Charset → List ℕ → List ℕ
read_as (Some Latin1) bytes = encode_utf8_all bytes
read_as _ bytes = utf8_lossy bytes

-- The text of a piece, in UTF-8.
abbrev pub text_of : WordPiece → List ℕ
text_of piece = read_as piece.charset piece.bytes

-- The text of a value, in UTF-8: the value is cut into pieces, the spaces between two words are
-- dropped, neighbours of one charset are joined, and each piece is read.
unfoldable pub decoded : List ℕ → List ℕ
decoded value = flat_map text_of (joined (without_gaps false (pieces value)))
