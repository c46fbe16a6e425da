-- Quoted-printable, read from any bytes (RFC 2045, section 6.7).
use Rattle.std.specs.Prelude.{ℕ, ◌-◌, Bool, ◌==◌, List, [], ◌∷◌, ◌++◌, length, take, reverse, slice_index, Option, Some, None, if◌then◌else◌}
use Rattle.std.specs.List.{flat_map}
use Rattle.mail_reader.specs.Lines.{lines_of}
use Rattle.mime_words.specs.Quoted.{escape}
use Rattle.mime_parts.specs.Delimiters.{is_blank}

-- The bytes of a text whose first byte starts an escape, or is itself.
abbrev pub escape_or_byte : Option ℕ → ℕ → List ℕ → List ℕ → List ℕ
escape_or_byte None b after_byte after_escape = b ∷ after_byte
escape_or_byte (Some byte) b after_byte after_escape = byte ∷ after_escape

-- `=` and two hexadecimal digits are a byte, and all other bytes are themselves, with any other
-- `=` (RFC 2045, section 6.7, rules 1 and 2).
abbrev pub decoded_escapes : List ℕ → List ℕ
decoded_escapes [] = []
decoded_escapes (b ∷ []) = b ∷ []
decoded_escapes (b ∷ x ∷ []) = b ∷ x ∷ []
decoded_escapes (b ∷ x ∷ y ∷ bs) = escape_or_byte (escape (b ∷ x ∷ y ∷ bs)) b
    (decoded_escapes (x ∷ y ∷ bs)) (decoded_escapes bs)

-- The bytes without the spaces and tabs at their front.
abbrev pub skip_blank : List ℕ → List ℕ
skip_blank [] = []
skip_blank (b ∷ bs) = if is_blank b then skip_blank bs else b ∷ bs

-- The bytes without the spaces and tabs at their end.
abbrev pub trimmed : List ℕ → List ℕ
trimmed bytes = reverse (skip_blank (reverse bytes))

-- The bytes without the last one.
abbrev pub without_last : List ℕ → List ℕ
without_last bytes = take (length bytes - 1) bytes

-- The bytes end with this one, which isn't 0.
abbrev pub ends_with : ℕ → List ℕ → Bool
ends_with b bytes = slice_index bytes (length bytes - 1) == b

-- A line without its line feed and the blanks before it. A `=` at its end joins it to the next line
-- (RFC 2045, section 6.7, rules 3 to 5).
abbrev pub content_bytes : List ℕ → List ℕ
content_bytes content = if ends_with 61 content then decoded_escapes (without_last content)
    else decoded_escapes content ++ 10 ∷ []

-- The bytes that a line encodes. A last line without a line feed is only its bytes and escapes.
abbrev pub line_bytes : List ℕ → List ℕ
line_bytes line =
    if ends_with 10 line then content_bytes (trimmed (without_last line)) else decoded_escapes line

-- The bytes that a text in quoted-printable encodes.
unfoldable pub unquoted : List ℕ → List ℕ
unquoted text = flat_map line_bytes (lines_of text)
