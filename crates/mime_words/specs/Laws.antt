-- Laws of decoding.
use Rattle.std.specs.Prelude.{◌≡◌, ◌<◌, ◌+◌, ◌*◌, ◌/◌, ◌↔◌, ℕ, Bool, true, ◌&&◌, ◌||◌, ◌==◌, nat_le, List, [], ◌∷◌, ◌++◌, length, take, slice_index, Some}
use Rattle.std.specs.List.{list_all, filter}
use Rattle.std.specs.Str.Lossy.{utf8_lossy}
use Rattle.base64.specs.Rfc4648.{encode_symbols}
use Rattle.base64.specs.Engines.{standard}
use Rattle.base64.specs.GeneralPurpose.{encode_of, IsBytes}
use Rattle.mime_words.specs.Base64.{unbase64}
use Rattle.mime_words.specs.Decoding.{decoded}
use Rattle.mime_words.specs.Words.{EncodedText, is_charset_byte, is_text_byte, encoding_of, word_at}

-- The bytes contain no `=?`.
abbrev pub HasNoOpening : List ℕ → Type 0
HasNoOpening value = (k : ℕ) → slice_index value k ≡ 61 → slice_index value (k + 1) ≡ 63 → ⊥

-- A value without `=?` decodes to its own UTF-8, with U+FFFD for bytes that aren't UTF-8.
abbrev pub ValueWithoutWords : Type 0
ValueWithoutWords = (value : List ℕ) → HasNoOpening value → decoded value ≡ utf8_lossy value

-- Base64 with its padding (RFC 4648, section 4) encodes the bytes that it was made of.
abbrev pub EncodedBytes : Type 0
EncodedBytes = (bytes : List ℕ) → IsBytes bytes → unbase64 (encode_of standard bytes) ≡ bytes

-- A byte of base64: a capital letter, a small letter, a digit, `+`, `/` or `=`.
abbrev pub is_base64_byte : ℕ → Bool
is_base64_byte b =
    (nat_le 65 b && nat_le b 90) || ((nat_le 97 b && nat_le b 122)
    || ((nat_le 48 b && nat_le b 57) || (b == 43 || (b == 47 || b == 61))))

-- Nothing, or `=` and any bytes after it.
abbrev pub IsPadding : List ℕ → Type 0
IsPadding [] = Unit {0}
IsPadding (b ∷ bs) = b ≡ 61

-- A base64 text of bytes (RFC 4648, section 4). Without the bytes that aren't base64 it is symbols,
-- and then nothing, or `=` and any bytes. The symbols are the first ones of these bytes with any
-- bytes after them: as many as hold just these bytes whole. So other bytes may be between the
-- symbols, padding may be missing, and bits at the end that make no whole byte mean nothing.
pub record IsBase64Of (bytes text : List ℕ) : Type 0 where
  pub more : List ℕ
  pub are_bytes : IsBytes (bytes ++ more)
  pub count : ℕ
  pub whole_bytes : 6 * count / 8 ≡ length bytes
  pub padding : List ℕ
  pub is_padding : IsPadding padding
  pub symbols : filter is_base64_byte text
      ≡ take count (encode_symbols standard.encode_table (bytes ++ more)) ++ padding

-- Such a text encodes the bytes.
abbrev pub LooseBase64 : Type 0
LooseBase64 = (bytes text : List ℕ) → IsBase64Of bytes text → unbase64 text ≡ bytes

-- Bytes that begin with a word (RFC 2047, section 2): `=?`, one or more bytes of a charset's name,
-- `?`, the encoding's letter, `?`, bytes of an encoded text, `?=`, and any bytes.
pub record IsSpelled (bytes : List ℕ) (word : EncodedText) : Type 0 where
  pub letter : ℕ
  pub after : List ℕ
  pub spelling : bytes
      ≡ 61 ∷ 63 ∷ (word.charset ++ (63 ∷ letter ∷ 63 ∷ (word.text ++ (63 ∷ 61 ∷ after))))
  pub named : 0 < length word.charset
  pub name : list_all is_charset_byte word.charset ≡ true
  pub encoding : encoding_of letter ≡ Some word.encoding
  pub text : list_all is_text_byte word.text ≡ true

-- A word is found at the front of bytes exactly if they start with its spelling.
abbrev pub WordsAreSpelled : Type 0
WordsAreSpelled = (bytes : List ℕ) (word : EncodedText)
    → (word_at bytes ≡ Some word) ↔ IsSpelled bytes word
