-- Private: one act as the code of a door of lines does it. A line of the piece is answered, or the
-- piece is kept.
use Rattle.std.specs.Prelude.{◌≡◌, ◌<◌, ◌≤◌, ℕ, List, ◌++◌, length, drop, Some, None, true, false}
use Rattle.line_door.specs.Acts.{ConnectionState, Departure, Acts}
use Rattle.line_door.specs.Clipped.{clipped}
use Rattle.line_door.specs.Readers.{LineReader, line_reader, LineReply, said, has_request}
use Rattle.line_door.specs.declared.turn.LineAct.{LineAct}
use Rattle.line_door.specs.declared.turn.LineAct.TheVariants.{Went, Kept, Closed}

-- A door of lines.
module _ {S A : Type 0} (limit : ℕ) (answered : A → S → List ℕ → Departure → LineReply S A)
    (too_long : A → S → LineReply S A) where
  -- One act on the bytes at the front: a line that took `n` bytes of the piece was answered and the
  -- session is open, or the piece was kept, or the session is closed. What requests read stays.
  abbrev pub IsLineAct : A → LineReader S → List ℕ → ConnectionState → LineAct → LineReader S
      → ConnectionState → Type 0
  IsLineAct a old piece i (Went n) new j =
      (has_request limit (line_reader old.state (clipped limit (old.bytes ++ piece))) ≡ true)
      × Acts (said limit answered too_long a
      (line_reader old.state (clipped limit (old.bytes ++ piece)))) i
      (Some (line_reader new.state (clipped limit (new.bytes ++ drop n piece)))) a j
  IsLineAct a old piece i Kept new j =
      (new ≡ line_reader old.state (clipped limit (old.bytes ++ piece)))
      × (has_request limit new ≡ false) × (j ≡ i)
  IsLineAct a old piece i Closed new j = Acts (said limit answered too_long a
      (line_reader old.state (clipped limit (old.bytes ++ piece)))) i None a j

-- A line takes bytes of the piece. What is kept has no line that has ended.
abbrev pub TakesBytes : {S : Type 0} → ℕ → List ℕ → LineAct → LineReader S → Type 0
TakesBytes limit piece (Went n) new = (0 < n) × (n ≤ length piece)
TakesBytes limit piece Kept new = has_request limit new ≡ false
TakesBytes limit piece Closed new = Unit {0}
