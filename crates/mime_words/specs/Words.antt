-- A value as text and encoded words (RFC 2047, sections 2 to 4).
use Rattle.std.specs.Prelude.{ℕ, zero, suc, ◌+◌, ◌-◌, Bool, ◌&&◌, ◌||◌, not, ◌==◌, nat_le, List, [], ◌∷◌, ◌++◌, length, take, drop, map, slice_index, codes, Option, Some, None, option_and_then, if◌then◌else◌}
use Rattle.std.specs.List.{prefix_len}
use Rattle.std.specs.Str.{str_eq_ignore_ascii_case}
use Rattle.mime_words.specs.declared.charset.Charset.{Charset}
use Rattle.mime_words.specs.declared.charset.Charset.TheVariants.{Utf8, UsAscii, Latin1}
use Rattle.mime_words.specs.declared.encoding.Encoding.{Encoding}
use Rattle.mime_words.specs.declared.encoding.Encoding.TheVariants.{Base64, Quoted}
use Rattle.mime_words.specs.Base64.{unbase64}
use Rattle.mime_words.specs.Quoted.{unquoted}

-- The charsets that are decoded, by their names in any case.
abbrev pub charset_of : List ℕ → Option Charset
charset_of name =
    if str_eq_ignore_ascii_case name (codes "utf-8") then Some Utf8
    else (if str_eq_ignore_ascii_case name (codes "us-ascii") then Some UsAscii
    else (if str_eq_ignore_ascii_case name (codes "iso-8859-1") then Some Latin1 else None))

-- A byte of a charset's name: any byte but `?` and a space.
abbrev pub is_charset_byte : ℕ → Bool
is_charset_byte b = not (b == 63) && not (b == 32)

-- A byte of an encoded text: printable ASCII, but no space and no `?`.
abbrev pub is_text_byte : ℕ → Bool
is_text_byte b = nat_le 33 b && nat_le b 126 && not (b == 63)

-- The encodings, by their letters.
abbrev pub encoding_of : ℕ → Option Encoding
encoding_of b =
    if b == 66 || b == 98 then Some Base64 else (if b == 81 || b == 113 then Some Quoted else None)

-- An encoded word: the name of its charset, its encoding and its encoded text.
pub record EncodedText : Type 0 where
  pub charset : List ℕ
  pub encoding : Encoding
  pub text : List ℕ

-- The length of an encoded word, with `=?`, `?`, the letter, `?` and `?=`.
abbrev pub word_len : EncodedText → ℕ
word_len word = length word.charset + length word.text + 7

-- The bytes after `=?` at the front.
abbrev pub after_opening : List ℕ → Option (List ℕ)
after_opening bytes =
    if slice_index bytes 0 == 61 && slice_index bytes 1 == 63 then Some (drop 2 bytes) else None

-- The encoding whose letter is between two `?` at the front.
abbrev pub encoding_at : List ℕ → Option Encoding
encoding_at bytes = if slice_index bytes 0 == 63 && slice_index bytes 2 == 63
    then encoding_of (slice_index bytes 1) else None

-- The bytes start with `?=`.
abbrev pub is_closing : List ℕ → Bool
is_closing bytes = slice_index bytes 0 == 63 && slice_index bytes 1 == 61

-- The encoded word, if after its charset's name and its encoding the encoded text and `?=` follow.
abbrev pub closed_word : List ℕ → List ℕ → Encoding → Option EncodedText
closed_word charset after encoding =
    let n = prefix_len is_text_byte after in
    if is_closing (drop n after) then Some
    (record { charset = charset; encoding = encoding; text = take n after }) else None

-- The encoded word after `=?`: one or more bytes of the charset's name, the encoding, and the rest
-- of the word.
abbrev pub opened_word : List ℕ → Option EncodedText
opened_word inside =
    let n = prefix_len is_charset_byte inside in
    if n == 0 then None
    else option_and_then (closed_word (take n inside) (drop (n + 3) inside))
    (encoding_at (drop n inside))

-- The encoded word at the front: `=?`, the charset's name, `?`, the encoding's letter, `?`, the
-- encoded text, `?=`.
abbrev pub word_at : List ℕ → Option EncodedText
word_at bytes = option_and_then opened_word (after_opening bytes)

-- The bytes that an encoded text encodes.
abbrev pub bytes_of : Encoding → List ℕ → List ℕ
bytes_of Base64 text = unbase64 text
bytes_of Quoted text = unquoted text

-- A piece of a value: the bytes of a word, which are read in its charset, or bytes outside of
-- words, which have no charset.
pub record WordPiece : Type 0 where
  pub charset : Option Charset
  pub bytes : List ℕ

-- Text outside of words, one piece for each byte.
abbrev pub plain : List ℕ → List WordPiece
plain text = map (λ b. record { charset = None; bytes = b ∷ [] }) text

-- A word of a charset that is decoded is one piece. A word of any other charset stays as it is
-- written.
abbrev pub pieces_of_word : Option Charset → EncodedText → List ℕ → List WordPiece
pieces_of_word None word written = plain written
pieces_of_word (Some charset) word written =
    record { charset = Some charset; bytes = bytes_of word.encoding word.text } ∷ []

-- The pieces of bytes that start with a word, or with another byte.
abbrev pub pieces_at : Option EncodedText → List ℕ → (ℕ → List WordPiece) → List WordPiece
pieces_at None bytes after = plain (take 1 bytes) ++ after 0
pieces_at (Some word) bytes after = pieces_of_word (charset_of word.charset) word
    (take (word_len word) bytes) ++ after (word_len word - 1)

-- The pieces of bytes, of which the first `n` belong to the word before them.
abbrev pub pieces_from : List ℕ → ℕ → List WordPiece
pieces_from [] n = []
pieces_from (b ∷ bs) zero = pieces_at (word_at (b ∷ bs)) (b ∷ bs) (λ n. pieces_from bs n)
pieces_from (b ∷ bs) (suc n) = pieces_from bs n

-- The pieces of a value. Words are found from left to right, and none starts within another.
abbrev pub pieces : List ℕ → List WordPiece
pieces value = pieces_from value 0
