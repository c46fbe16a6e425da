-- The content of a borrowed field, and what is found at the front of a text.
use Rattle.std.specs.Prelude.{◌≡◌, ℕ, ◌<◌, ◌≤◌, List, [], ◌∷◌, length, take, drop}
use Rattle.std.specs.List.{prefix_len}
use Rattle.mail_reader.specs.Lines.{lines_of, header_lines, front, after_front, after_header, is_name_byte}
use Rattle.mail_reader.specs.Fields.{FieldText, parts_of, field_of, fields_of}
use Rattle.mail_reader.specs.declared.header.Field.{Field}

-- The bytes of a borrowed field.
abbrev pub shown : Field → FieldText
shown field = record { name = field.name.now; value = field.value.now; whole = field.whole.now }

-- The first `len` bytes are continuation lines, and no such line follows them.
pub record Continues (bytes : List ℕ) (len : ℕ) : Type 0 where
  pub within : len ≤ length bytes
  pub parts : parts_of (front (lines_of bytes))
      ≡ (take len bytes, (parts_of (header_lines (lines_of (drop len bytes)))).1)
  pub after : after_front (lines_of bytes) ≡ after_header (lines_of (drop len bytes))

-- The first `len` bytes are the first field of a header.
pub record IsFirstField (text : List ℕ) (len : ℕ) : Type 0 where
  pub some : 0 < len
  pub within : len ≤ length text
  pub colon : prefix_len is_name_byte (take len text) < len
  pub fields : fields_of text ≡ field_of (take len text) ∷ fields_of (drop len text)
  pub after : after_header (lines_of text) ≡ after_header (lines_of (drop len text))

-- The text doesn't start with a field.
pub record HasNoField (text : List ℕ) : Type 0 where
  pub fields : fields_of text ≡ []
  pub after : after_header (lines_of text) ≡ lines_of text
