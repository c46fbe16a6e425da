-- Private: the text that is written piece by piece, and the words at the front of a value.
use Rattle.std.specs.Prelude.{◌≡◌, ◌<◌, ◌≤◌, ℕ, ◌&&◌, List, [], ◌∷◌, ◌++◌, length, take, drop, Option, Some, None, MatchOption, is_some, if◌then◌else◌}
use Rattle.mime_words.specs.declared.charset.Charset.{Charset}
use Rattle.mime_words.specs.declared.words.Word.{Word}
use Rattle.mime_words.specs.declared.words.Front.{Front}
use Rattle.mime_words.specs.declared.words.Front.TheVariants.{Text, Decoded}
use Rattle.mime_words.specs.declared.words.Found.{Found}
use Rattle.mime_words.specs.declared.words.EncodedWord.{EncodedWord}
use Rattle.mime_words.specs.Words.{EncodedText, word_len, WordPiece, plain, pieces, bytes_of}
use Rattle.mime_words.specs.Decoding.{same_charset, read_as, is_blank}

-- The finished text, and bytes of one charset, or of none, that wait for more of it.
pub record Written : Type 0 where
  pub text : List ℕ
  pub charset : Option Charset
  pub held : List ℕ

-- The state before anything is written.
abbrev pub empty : Written
empty = record { text = []; charset = None; held = [] }

-- The bytes that wait are read and appended.
abbrev pub finished : Written → List ℕ
finished w = w.text ++ read_as w.charset w.held

-- Bytes of a charset may follow: bytes that wait for another charset are read and appended first.
abbrev pub turned : Written → Option Charset → Written
turned w charset = if same_charset w.charset charset then w
    else record { text = finished w; charset = charset; held = [] }

-- More bytes wait.
abbrev pub with_held : Written → List ℕ → Written
with_held w bytes = record { text = w.text; charset = w.charset; held = w.held ++ bytes }

-- A piece is written.
abbrev pub with_piece : Written → WordPiece → Written
with_piece w piece = with_held (turned w piece.charset) piece.bytes

-- Text outside of words is written. An empty text changes nothing.
abbrev pub with_text : Written → List ℕ → Written
with_text w [] = w
with_text w (b ∷ bs) = with_piece w (record { charset = None; bytes = b ∷ bs })

-- The text before a word is written, unless it is only spaces after another word.
abbrev pub with_text_before : Written → List ℕ → Written
with_text_before w text = if is_some w.charset && is_blank text then w else with_text w text

-- The piece of a word.
abbrev pub piece_of : Word → WordPiece
piece_of word = record { charset = Some word.charset; bytes = bytes_of word.encoding word.text.now }

-- The encoded word with its parts as lists.
abbrev pub shown : EncodedWord → EncodedText
shown word = record { charset = word.charset.now; encoding = word.encoding; text = word.text.now }

-- The wanted word is found, of at most `most` bytes, or none is wanted and none is found.
abbrev pub IsWordOf : Option EncodedText → ℕ → Option EncodedWord → Type 0
IsWordOf wanted most found = MatchOption found (wanted ≡ None) (λ word. (wanted ≡ Some (shown word))
    × (word_len (shown word) ≤ most))

-- The front of some bytes: text of a length, or a word that is decoded.
abbrev pub IsWordFront : List ℕ → Front → Type 0
IsWordFront bytes (Text len) = (0 < len) × (len ≤ length bytes)
    × (pieces bytes ≡ plain (take len bytes) ++ pieces (drop len bytes))
IsWordFront bytes (Decoded word len) = (0 < len) × (len ≤ length bytes)
    × (pieces bytes ≡ piece_of word ∷ pieces (drop len bytes))

-- The first word that is decoded is found, with the text before it and the bytes after it;
-- otherwise all is text.
abbrev pub FindsWord : List ℕ → Option Found → Type 0
FindsWord value found =
    MatchOption found (pieces value ≡ plain value)
    (λ f. (pieces value ≡ plain f.before.now ++ piece_of f.word ∷ pieces f.rest.now)
    × (length f.rest.now < length value))
