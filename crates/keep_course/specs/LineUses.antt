-- Whether an act of a door of lines may use the disk: the line at its front does, if it has ended and
-- isn't too long.
use Rattle.std.specs.Prelude.{ℕ, List, Bool, false}
use Rattle.line_door.specs.Lines.{content}
use Rattle.line_door.specs.Readers.{LineReader}
use Rattle.line_door.specs.Skipping.{SkippedLine, Taken, Skipped, Unended, skipping_front}

-- The greatest length of a line with its line end, and whether the reply to a line, without its line
-- end, may use the disk, given the archive and the state of the session.
module _ {S A : Type 0} (limit : ℕ) (line_uses : A → S → List ℕ → Bool) where
  -- What is at the front of a session uses the disk.
  abbrev pub front_uses : A → S → SkippedLine → Bool
  front_uses a s (Taken line rest) = line_uses a s (content line)
  front_uses a s (Skipped rest) = false
  front_uses a s Unended = false

  -- An act of a session does.
  abbrev pub reader_uses : A → LineReader S → Bool
  reader_uses a r = front_uses a r.state (skipping_front limit r.bytes)
