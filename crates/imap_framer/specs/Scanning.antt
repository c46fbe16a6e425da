-- What the functions give that find the end of a line and read what it announces.
use Rattle.std.specs.Prelude.{◌≡◌, ◌≤◌, ◌<◌, ◌+◌, ◌-◌, ℕ, min, if◌then◌else◌, nat_le, List, ◌++◌, length, take, drop, Option, Some, None, MatchOption}
use Rattle.line_door.specs.Lines.{first_line}
use Rattle.imap_framer.specs.Framing.{Framing}
use Rattle.imap_framer.specs.declared.parts.NextPart.{NextPart}
use Rattle.imap_framer.specs.declared.parts.NextPart.TheVariants as next

-- The line after the first `skip` octets of the piece ends with the line feed at this offset.
abbrev pub IsLineEnd : ℕ → List ℕ → Option ℕ → Type 0
IsLineEnd skip piece found = MatchOption found (first_line (drop skip piece) ≡ None)
    (λ end. (skip ≤ end) × (end < length piece)
    × (first_line (drop skip piece) ≡ Some (take (end - skip) (drop skip piece), drop (end + 1) piece)))

-- A number, but at most `cap`.
abbrev pub capped : ℕ → Option ℕ → Option ℕ
capped cap None = None
capped cap (Some n) = Some (min n cap)

-- What is held of octets of which the first `held` are ended parts.
abbrev pub framing_of : ℕ → ℕ → List ℕ → Framing
framing_of held owed octets = record { held = take held octets; owed = owed; part = drop held octets }

-- A part whose line ends with the first `used` octets of a piece, by what the line announces, where
-- the command has room for `left` octets after it.
abbrev pub part_kind : ℕ → ℕ → Option ℕ → NextPart
part_kind left used None = next.Last used
part_kind left used (Some n) = if nat_le n left then next.Literal used n else next.TooLong used
