-- The line at the front, at a door that skips a line that is too long up to its line feed (RFC 3977,
-- section 3.1).
use Rattle.std.specs.Prelude.{◌≡◌, ◌+◌, ◌<◌, ◌↔◌, ℕ, if◌then◌else◌, nat_lt, List, ◌++◌, length, take, drop, Option, Some, None, Bool, true, false}
use Rattle.line_door.specs.Lines.{first_line}
use Rattle.line_door.specs.LineLaws.{NoFeed, IsFirstLine}
use Rattle.line_door.specs.declared.skipping.Passage.{Passage}
use Rattle.line_door.specs.declared.skipping.Passage.TheVariants as passage

-- A whole line, without its line feed, and the bytes after it; or the bytes after a line that is too
-- long; or no line feed yet.
pub data SkippedLine : Type 0 where
  Taken : List ℕ → List ℕ → SkippedLine
  Skipped : List ℕ → SkippedLine
  Unended : SkippedLine

-- A line has at most `limit` octets with its line feed.
abbrev pub passed : ℕ → Option (List ℕ × List ℕ) → SkippedLine
passed limit None = Unended
passed limit (Some p) = if nat_lt (length p.0) limit then Taken p.0 p.1 else Skipped p.1

-- The line at the front of these bytes.
abbrev pub skipping_front : ℕ → List ℕ → SkippedLine
skipping_front limit bytes = passed limit (first_line bytes)

-- The front is a whole line, or one that is too long and has ended, and so is answered now.
abbrev pub is_ended : SkippedLine → Bool
is_ended (Taken line rest) = true
is_ended (Skipped rest) = true
is_ended Unended = false

-- What is held of bytes without a line feed: `limit` of them are too long already, whatever comes.
abbrev pub held_of : ℕ → List ℕ → List ℕ
held_of limit bytes = take limit bytes

-- The line ends at this byte of the piece, or a line that is too long does, or neither.
abbrev pub IsPassage : ℕ → List ℕ → List ℕ → Passage → Type 0
IsPassage limit held piece (passage.Line n) = (n < length piece) × (skipping_front limit
    (held ++ piece) ≡ Taken (held ++ take n piece) (drop (n + 1) piece))
IsPassage limit held piece (passage.Skipped n) = (n < length piece)
    × (skipping_front limit (held ++ piece) ≡ Skipped (drop (n + 1) piece))
IsPassage limit held piece passage.More = skipping_front limit (held ++ piece) ≡ Unended

-- The law of the line at such a front.
pub record SkippingLaw : Type 0 where
  -- A whole line is at the front if and only if the bytes start with one. No line has ended if and
  -- only if there is no line feed.
  pub taken : (limit : ℕ) (bytes line rest : List ℕ)
      → skipping_front limit bytes ≡ Taken line rest ↔ IsFirstLine limit bytes line rest
  pub unended : (limit : ℕ) (bytes : List ℕ) → skipping_front limit bytes ≡ Unended ↔ NoFeed bytes
  -- More bytes leave a line that has ended what it is.
  pub goes_on : (limit : ℕ) (bytes more line rest : List ℕ)
      → skipping_front limit bytes ≡ Taken line rest
      → skipping_front limit (bytes ++ more) ≡ Taken line (rest ++ more)
  pub stays_skipped : (limit : ℕ) (bytes more rest : List ℕ)
      → skipping_front limit bytes ≡ Skipped rest
      → skipping_front limit (bytes ++ more) ≡ Skipped (rest ++ more)
  -- The rest after a line is shorter than the bytes.
  pub shorter : (limit : ℕ) (bytes line rest : List ℕ)
      → skipping_front limit bytes ≡ Taken line rest → length rest < length bytes
  pub shorter_skipped : (limit : ℕ) (bytes rest : List ℕ)
      → skipping_front limit bytes ≡ Skipped rest → length rest < length bytes
  -- What is held of a part of a line goes on as the whole part would.
  pub held : (limit : ℕ) (bytes more : List ℕ) → skipping_front limit bytes ≡ Unended
      → skipping_front limit (held_of limit bytes ++ more) ≡ skipping_front limit (bytes ++ more)
