-- A text as a list of lines (RFC 5322, sections 2.1 and 2.2).
use Rattle.std.specs.Prelude.{ℕ, Bool, false, ◌&&◌, ◌||◌, not, ◌==◌, nat_le, nat_lt, List, [], ◌∷◌, if◌then◌else◌, slice_index}
use Rattle.std.specs.List.{onto_first, prefix_len}

-- The lines of a text: each is the bytes up to and including a line feed. The bytes after the last
-- line feed are a line, too.
abbrev pub lines_of : List ℕ → List (List ℕ)
lines_of [] = []
lines_of (b ∷ bs) = if b == 10 then (b ∷ []) ∷ lines_of bs else onto_first b (lines_of bs)

-- A byte of a field's name: printable ASCII other than space and colon (RFC 5322, section 2.2).
abbrev pub is_name_byte : ℕ → Bool
is_name_byte b = nat_le 33 b && nat_le b 126 && not (b == 58)

-- A field line starts with one or more bytes of a name and then a colon (RFC 5322, section 2.2).
unfoldable pub is_field_line : List ℕ → Bool
is_field_line line = let n = prefix_len is_name_byte line in nat_lt 0 n && slice_index line n == 58

-- A continuation line starts with a space or a tab (RFC 5322, section 2.2.3).
abbrev pub is_continuation : List ℕ → Bool
is_continuation [] = false
is_continuation (b ∷ bs) = b == 32 || b == 9

-- An empty line is only a line feed.
abbrev pub is_empty_line : List ℕ → Bool
is_empty_line [] = false
is_empty_line (b ∷ []) = b == 10
is_empty_line (b ∷ c ∷ bs) = false

-- The lines before the first one that is neither a field line nor a continuation line.
abbrev pub front : List (List ℕ) → List (List ℕ)
front [] = []
front (line ∷ lines) = if is_field_line line || is_continuation line then line ∷ front lines else []

-- The lines from the first one on that is neither a field line nor a continuation line.
abbrev pub after_front : List (List ℕ) → List (List ℕ)
after_front [] = []
after_front (line ∷ lines) =
    if is_field_line line || is_continuation line then after_front lines else line ∷ lines

-- The header: the longest run of lines from the start whose first line is a field line and each
-- later one a field line or a continuation line (RFC 5322, section 2.2).
abbrev pub header_lines : List (List ℕ) → List (List ℕ)
header_lines [] = []
header_lines (line ∷ lines) = if is_field_line line then line ∷ front lines else []

-- The lines after the header.
abbrev pub after_header : List (List ℕ) → List (List ℕ)
after_header [] = []
after_header (line ∷ lines) = if is_field_line line then after_front lines else line ∷ lines

-- The lines after an empty line, if the first line is empty.
abbrev pub after_empty : List (List ℕ) → List (List ℕ)
after_empty [] = []
after_empty (line ∷ lines) = if is_empty_line line then lines else line ∷ lines
