-- What a head asks, as a function of its bytes.
use Rattle.std.specs.Prelude.{ℕ, ◌+◌, nat_lt, nat_le, Bool, true, false, not, ◌&&◌, ◌==◌, List, [], ◌∷◌, length, drop, codes, Option, Some, None, if◌then◌else◌}
use Rattle.std.specs.List.{filter, list_all, list_any}
use Rattle.std.specs.Str.{bytes_eq, is_utf8}
use Rattle.httparse.specs.Grammar.{is_token, is_uri_byte, is_value_byte, LineEnd, crlf, lf, Field, RequestHead, print_request}
use Rattle.http_heads.specs.Heads.{Asked, asked_of}
use Rattle.http_heads.specs.Pieces.{pieces_of}
use Rattle.http_front.specs.Asking.{HeadGrammar}

-- The byte is a carriage return.
abbrev pub is_return : ℕ → Bool
is_return b = b == 13

-- A line without its carriage returns.
abbrev pub content : List ℕ → List ℕ
content line = filter (λ b. not (is_return b)) line

-- How a line before a line feed ends, by whether it has a carriage return.
abbrev pub ending : List ℕ → LineEnd
ending line = if list_any is_return line then crlf else lf

-- There are no bytes.
abbrev pub is_empty : List ℕ → Bool
is_empty [] = true
is_empty (b ∷ bs) = false

-- The ends of the empty lines before all others.
abbrev pub ends_before : List (List ℕ) → List LineEnd
ends_before [] = []
ends_before (line ∷ lines) =
    if is_empty (content line) then ending line ∷ ends_before lines else []

-- The lines from the first that isn't empty.
abbrev pub lines_after : List (List ℕ) → List (List ℕ)
lines_after [] = []
lines_after (line ∷ lines) = if is_empty (content line) then lines_after lines else line ∷ lines

-- The first of some pieces.
abbrev pub first_piece : List (List ℕ) → List ℕ
first_piece [] = []
first_piece (piece ∷ pieces) = piece

-- The field with this name in a text, and with the bytes after the next one.
abbrev pub field_named : List ℕ → List ℕ → LineEnd → Field
field_named name text end = record { name = name; raw = drop (length name + 1) text; end = end }

-- The field that a text has, whose name ends at the first colon.
abbrev pub field_by : List ℕ → LineEnd → Field
field_by text end = field_named (first_piece (pieces_of 58 text)) text end

-- The fields on the lines before the first empty one.
abbrev pub fields_in : List (List ℕ) → List Field
fields_in [] = []
fields_in (line ∷ lines) =
    if is_empty (content line) then [] else field_by (content line) (ending line) ∷ fields_in lines

-- How the first empty line ends.
abbrev pub last_in : List (List ℕ) → LineEnd
last_in [] = lf
last_in (line ∷ lines) = if is_empty (content line) then ending line else last_in lines

-- The second number of a version, by its text.
abbrev pub minor_of : List ℕ → ℕ
minor_of version = if bytes_eq version (codes "HTTP/1.0") then 0 else 1

-- The head of these empty lines, this end and these words of its first line, and the lines after it.
-- A first line has three words.
abbrev pub head_by : List LineEnd → LineEnd → List (List ℕ) → List (List ℕ) → Option RequestHead
head_by blank end (method ∷ target ∷ version ∷ []) lines = Some (record {
  blank = blank;
  method = method;
  target = target;
  minor = minor_of version;
  line_end = end;
  fields = fields_in lines;
  last = last_in lines;
})
head_by blank end other lines = None

-- The head of these empty lines and the lines after them, of which the first one's words are parted by
-- single spaces.
abbrev pub head_from : List LineEnd → List (List ℕ) → Option RequestHead
head_from blank [] = None
head_from blank (line ∷ lines) = head_by blank (ending line) (pieces_of 32 (content line)) lines

-- The head of these lines.
abbrev pub head_in : List (List ℕ) → Option RequestHead
head_in lines = head_from (ends_before lines) (lines_after lines)

-- The name of a field is a token, and its value has no control byte but the tab.
abbrev pub is_field : Field → Bool
is_field field = is_token field.name && list_all is_value_byte field.raw

-- The target has a byte and only visible ones, and is UTF-8.
abbrev pub is_target : List ℕ → Bool
is_target target = (nat_lt 0 (length target) && list_all is_uri_byte target) && is_utf8 target

-- Each part of a head is of its class.
abbrev pub is_valid : RequestHead → Bool
is_valid head = (is_token head.method && is_target head.target)
    && (nat_le head.minor 1 && list_all is_field head.fields)

-- The head is valid, has at most 128 fields, and is printed as these bytes.
abbrev pub is_head : List ℕ → RequestHead → Bool
is_head bytes head = is_valid head && (nat_le (length head.fields) 128
    && bytes_eq bytes (print_request head))

-- What a head asks, if it is one of these bytes.
abbrev pub asked_if : List ℕ → Option RequestHead → Option Asked
asked_if bytes None = None
asked_if bytes (Some head) = if is_head bytes head then Some (asked_of head) else None

-- What the head of these bytes asks. The bytes are divided into lines, and the lines into the parts of
-- a head, without a look at what they are. They are a head if it is valid and printed as these bytes.
unfoldable pub asked_in : HeadGrammar
asked_in bytes = asked_if bytes (head_in (pieces_of 10 bytes))
