-- The lines that divide the body of a multipart (RFC 2046, section 5.1.1).
use Rattle.std.specs.Prelude.{ℕ, ◌+◌, ◌-◌, max, Bool, ◌&&◌, ◌||◌, ◌==◌, nat_le, List, [], ◌∷◌, length, take, drop, codes, if◌then◌else◌}
use Rattle.std.specs.List.{list_all}
use Rattle.std.specs.Str.{bytes_eq}
use Rattle.mail_reader.specs.Fields.{without_feed}
use Rattle.mime_parts.specs.declared.part.Span.{Span}
use Rattle.mime_parts.specs.declared.delimiters.LineKind.{LineKind}
use Rattle.mime_parts.specs.declared.delimiters.LineKind.TheVariants.{Plain, Delimiter, Closing}

-- The bytes from one offset up to another.
abbrev pub span_of : ℕ → ℕ → Span
span_of start end = record { start = start; end = end }

-- The byte is a space or a tab.
abbrev pub is_blank : ℕ → Bool
is_blank b = b == 32 || b == 9

-- The bytes start with a word.
abbrev pub begins : List ℕ → List ℕ → Bool
begins bytes word = bytes_eq (take (length word) bytes) word

-- The two dashes before a boundary.
abbrev pub dashes : List ℕ
dashes = codes "--"

-- The kind of a line, by its bytes after the boundary: only spaces and tabs follow, in a closing line
-- after two more dashes.
abbrev pub kind_after : List ℕ → LineKind
kind_after tail =
    if list_all is_blank tail then Delimiter
    else (if begins tail dashes && list_all is_blank (drop 2 tail) then Closing else Plain)

-- The kind of a line, by its bytes after two dashes.
abbrev pub kind_by : List ℕ → List ℕ → LineKind
kind_by boundary tail =
    if begins tail boundary then kind_after (drop (length boundary) tail) else Plain

-- The kind of a line: two dashes, the boundary, and spaces or tabs are a delimiter line; with two
-- more dashes after the boundary they are a closing line; any other line is plain.
unfoldable pub kind_of : List ℕ → List ℕ → LineKind
kind_of boundary line =
    if begins (without_feed line) dashes then kind_by boundary (drop 2 (without_feed line)) else Plain

-- What lines from an offset on mean: where a part before them ends that they go on with, and the
-- parts that start among them.
pub record Cuts : Type 0 where
  pub stop : ℕ
  pub parts : List Span

-- The cuts of these two parts.
abbrev pub cuts : ℕ → List Span → Cuts
cuts stop parts = record { stop = stop; parts = parts }

-- A line of a kind, from `at` up to `next`, before other lines. A delimiter line ends the part
-- before it, with the line feed before the line, and starts a part: up to where the next delimiter
-- ends it, or empty, if that is the next line. A closing line starts no part, and nothing after it
-- does.
abbrev pub cuts_by : LineKind → ℕ → ℕ → Cuts → Cuts
cuts_by Plain at next later = later
cuts_by Delimiter at next later = cuts (at - 1) (span_of next (max next later.stop) ∷ later.parts)
cuts_by Closing at next later = cuts (at - 1) []

-- The lines from an offset on. A part that no delimiter line ends goes on to the end.
abbrev pub cuts_from : List ℕ → ℕ → List (List ℕ) → Cuts
cuts_from boundary at [] = cuts at []
cuts_from boundary at (line ∷ lines) = cuts_by (kind_of boundary line) at (at + length line)
    (cuts_from boundary (at + length line) lines)

-- A boundary has 1 to 70 bytes (RFC 2046, section 5.1.1).
abbrev pub is_boundary : List ℕ → Bool
is_boundary boundary = nat_le 1 (length boundary) && nat_le (length boundary) 70
