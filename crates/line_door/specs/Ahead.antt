-- How a piece continues a part of a line.
use Rattle.std.specs.Prelude.{◌≡◌, ◌+◌, ◌<◌, ℕ, List, ◌++◌, length, take, drop}
use Rattle.line_door.specs.Lines.{Whole, Long, Partial, front}
use Rattle.line_door.specs.declared.line.Ahead.{Ahead}
use Rattle.line_door.specs.declared.line.Ahead.TheVariants as ahead

-- The line ends at this byte of the piece, or it is too long, or it is still a part.
abbrev pub IsLineAhead : ℕ → List ℕ → List ℕ → Ahead → Type 0
IsLineAhead limit held piece (ahead.Line n) = (n < length piece)
    × (front limit (held ++ piece) ≡ Whole (held ++ take n piece) (drop (n + 1) piece))
IsLineAhead limit held piece ahead.Long = front limit (held ++ piece) ≡ Long
IsLineAhead limit held piece ahead.More = front limit (held ++ piece) ≡ Partial
