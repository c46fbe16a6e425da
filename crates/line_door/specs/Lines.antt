-- The line at the front of a connection's bytes.
use Rattle.std.specs.Prelude.{◌==◌, ◌-◌, ℕ, if◌then◌else◌, nat_lt, List, [], ◌∷◌, length, take, slice_index, Option, Some, None, Bool, true, false}

-- The line with one more byte at its front.
abbrev pub put_before : ℕ → Option (List ℕ × List ℕ) → Option (List ℕ × List ℕ)
put_before b None = None
put_before b (Some p) = Some (b ∷ p.0, p.1)

-- The bytes before the first line feed and those after it, if there is one.
abbrev pub first_line : List ℕ → Option (List ℕ × List ℕ)
first_line [] = None
first_line (b ∷ bs) = if b == 10 then Some ([], bs) else put_before b (first_line bs)

-- A whole line, without its line feed, and the bytes after it; or a line that is too long; or a
-- part of a line.
pub data LineFront : Type 0 where
  Whole : List ℕ → List ℕ → LineFront
  Long : LineFront
  Partial : LineFront

-- A line has at most `limit` octets with its line feed. `limit` octets without one are too long.
abbrev pub sized : ℕ → List ℕ → Option (List ℕ × List ℕ) → LineFront
sized limit bytes None = if nat_lt (length bytes) limit then Partial else Long
sized limit bytes (Some p) = if nat_lt (length p.0) limit then Whole p.0 p.1 else Long

-- The line at the front of these bytes.
abbrev pub front : ℕ → List ℕ → LineFront
front limit bytes = sized limit bytes (first_line bytes)

-- The front is a whole line or a line that is too long, and so is answered now.
abbrev pub is_whole : LineFront → Bool
is_whole (Whole line rest) = true
is_whole Long = true
is_whole Partial = false

-- A line without one carriage return at its end.
abbrev pub content : List ℕ → List ℕ
content line = if slice_index line (length line - 1) == 13 then take (length line - 1) line else line
