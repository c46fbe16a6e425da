-- The fields of a header (RFC 5322, section 2.2).
use Rattle.std.specs.Prelude.{ℕ, ◌+◌, Bool, ◌==◌, List, [], ◌∷◌, ◌++◌, take, drop, map, Option, None, Some, if◌then◌else◌}
use Rattle.std.specs.List.{prefix_len}
use Rattle.std.specs.Str.{str_eq_ignore_ascii_case}
use Rattle.mail_reader.specs.Lines.{is_name_byte, is_field_line, lines_of, header_lines}

-- The lines of a header from some line on, in two parts: those that continue the field before them,
-- and the fields that start here, each a field line with the continuation lines after it (RFC 5322,
-- section 2.2.3).
abbrev pub parts_of : List (List ℕ) → List ℕ × List (List ℕ)
parts_of [] = ([], [])
parts_of (line ∷ lines) =
    let later = parts_of lines in
    if is_field_line line then ([], (line ++ later.0) ∷ later.1) else (line ++ later.0, later.1)

-- The name of a field.
abbrev pub name_of : List ℕ → List ℕ
name_of field = take (prefix_len is_name_byte field) field

-- The field has this name. Names are compared ignoring case (RFC 5322, section 1.2.2).
unfoldable pub is_named : List ℕ → List ℕ → Bool
is_named name field = str_eq_ignore_ascii_case (name_of field) name

-- The list without the line feed at its end.
abbrev pub without_feed : List ℕ → List ℕ
without_feed [] = []
without_feed (b ∷ []) = if b == 10 then [] else b ∷ []
without_feed (b ∷ c ∷ bs) = b ∷ without_feed (c ∷ bs)

-- A field: its name, the bytes after its colon without the last line feed, and all its bytes.
pub record FieldText : Type 0 where
  pub name : List ℕ
  pub value : List ℕ
  pub whole : List ℕ

-- The field that consists of these bytes.
unfoldable pub field_of : List ℕ → FieldText
field_of whole =
    let n = prefix_len is_name_byte whole in
    record { name = take n whole; value = without_feed (drop (n + 1) whole); whole = whole }

-- The fields of a text's header, from first to last.
unfoldable pub fields_of : List ℕ → List FieldText
fields_of text = map field_of (parts_of (header_lines (lines_of text))).1

-- The first field with a name.
abbrev pub first_named : List ℕ → List FieldText → Option FieldText
first_named name [] = None
first_named name (field ∷ fields) =
    if str_eq_ignore_ascii_case field.name name then Some field else first_named name fields
