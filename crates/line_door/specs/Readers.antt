-- The door of lines of which each reading door is an instance. It answers each line by itself, and
-- skips a line that is too long up to its line feed (RFC 3977, section 3.1; RFC 1939, section 3).
use Rattle.std.specs.Prelude.{ℕ, List, ◌++◌, length, Option, Some, None, Bool, true, false}
use Rattle.line_door.specs.Acts.{Said, Departure}
use Rattle.line_door.specs.Clipped.{clipped}
use Rattle.line_door.specs.Cuts.{DoorLaws}
use Rattle.line_door.specs.Lines.{content}
use Rattle.line_door.specs.Plain.{silent}
use Rattle.line_door.specs.Skipping.{SkippedLine, Taken, Skipped, Unended, skipping_front, is_ended}

-- A session: its state, and the bytes that are not answered yet.
pub record LineReader (S : Type 0) : Type 0 where
  pub state : S
  pub bytes : List ℕ

-- The session of these two parts.
abbrev pub line_reader : {S : Type 0} → S → List ℕ → LineReader S
line_reader state bytes = record { state = state; bytes = bytes }

-- A reply: its words, whether they are streamed, the state after it (None if the session is closed),
-- and what requests read and change.
pub record LineReply (S A : Type 0) : Type 0 where
  pub words : List ℕ
  pub streamed : Bool
  pub state : Option S
  pub after : A

-- The session in a state, if it is open.
abbrev pub reader_if : {S : Type 0} → Option S → List ℕ → Option (LineReader S)
reader_if None rest = None
reader_if (Some state) rest = Some (line_reader state rest)

-- A reply as an act, after which these bytes follow.
abbrev pub as_said : {S A : Type 0} → List ℕ → LineReply S A → Said (LineReader S) A
as_said rest r = record {
  next = reader_if r.state rest;
  words = r.words;
  streamed = r.streamed;
  after = r.after;
}

-- The greatest length of a line with its line end, in octets.
module _ {S : Type 0} (limit : ℕ) where
  -- The session starts with a line that has ended.
  abbrev pub has_request : LineReader S → Bool
  has_request r = is_ended (skipping_front limit r.bytes)

  -- The session with a piece after its bytes. Of each line only its first `limit` octets are kept,
  -- since a line with more is too long whatever follows.
  abbrev pub with_piece : List ℕ → LineReader S → LineReader S
  with_piece piece r = line_reader r.state (clipped limit (r.bytes ++ piece))

-- The size of a session. Each line makes it smaller.
abbrev pub left : {S : Type 0} → LineReader S → ℕ
left r = length r.bytes

-- The greatest length of a line with its line end; the reply to a line, without its line end, in each
-- way; and the reply to one that is too long.
module _ {S A : Type 0} (limit : ℕ) (answered : A → S → List ℕ → Departure → LineReply S A)
    (too_long : A → S → LineReply S A) where
  -- What is said to what is at the front of a session. A line that is too long is answered once it
  -- ends, and a part of a line is kept.
  abbrev pub said_at : A → LineReader S → SkippedLine → Departure → Said (LineReader S) A
  said_at a r (Taken line rest) way = as_said rest (answered a r.state (content line) way)
  said_at a r (Skipped rest) way = as_said rest (too_long a r.state)
  said_at a r Unended way = silent a r

  -- What the door says.
  abbrev pub said : A → LineReader S → Departure → Said (LineReader S) A
  said a r way = said_at a r (skipping_front limit r.bytes) way

  -- The laws of the door, whatever its replies are.
  abbrev pub LineReaderLaws : Type 0
  LineReaderLaws = DoorLaws said (has_request limit) (with_piece limit) left
