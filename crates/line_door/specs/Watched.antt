-- A small door of lines whose sessions may idle, at which the laws of all doors of lines and of
-- updates are proved. It watches a count, and each reply tells first by how much that has risen.
use Rattle.std.specs.Prelude.{◌-◌, ℕ, List, [], ◌∷◌, ◌++◌, Option, Some, None, Bool, true, false, if◌then◌else◌, replicate}
use Rattle.line_door.specs.Acts.{Said, Departure, Plain, Memory, Disk, Newer}
use Rattle.line_door.specs.Clipped.{longest_line}
use Rattle.line_door.specs.Echo.{memory_word, long_word, is_quit}
use Rattle.line_door.specs.Readers.{LineReader, line_reader, LineReply, said, has_request, with_piece, left, LineReaderLaws}
use Rattle.line_door.specs.Updates.{UpdateDoor, UpdatedCutLaw}

-- One sign for each step of the count that the session wasn't told.
abbrev pub untold : ℕ → ℕ → List ℕ
untold a seen = replicate (a - seen) 43

-- A reply, after which the session has been told all.
abbrev pub telling : ℕ → ℕ → Option ℕ → List ℕ → LineReply ℕ ℕ
telling a seen state words = record {
  words = untold a seen ++ words;
  streamed = false;
  state = state;
  after = a;
}

-- The answer to a line: `quit` closes, and any other line is sent back.
abbrev pub watch_plain : ℕ → ℕ → List ℕ → LineReply ℕ ℕ
watch_plain a seen line =
    if is_quit line then telling a seen None [] else telling a seen (Some a) (line ++ 10 ∷ [])

-- What a line says in each way. Out of memory, the line is skipped with a word, and nothing is told.
abbrev pub watch_line : ℕ → ℕ → List ℕ → Departure → LineReply ℕ ℕ
watch_line a seen line Plain = watch_plain a seen line
watch_line a seen line Memory =
    record { words = memory_word; streamed = false; state = Some seen; after = a }
watch_line a seen line Disk = watch_plain a seen line
watch_line a seen line Newer = watch_plain a seen line

-- The answer to a line that is too long.
abbrev pub watch_long : ℕ → ℕ → LineReply ℕ ℕ
watch_long a seen = telling a seen (Some a) long_word

-- What the door says.
abbrev pub watch_said : ℕ → LineReader ℕ → Departure → Said (LineReader ℕ) ℕ
watch_said a r way = said longest_line watch_line watch_long a r way

-- The session after its update has been told all.
abbrev pub watch_updated : ℕ → LineReader ℕ → LineReader ℕ
watch_updated a r = line_reader a r.bytes

-- What an update tells.
abbrev pub watch_tells : ℕ → LineReader ℕ → List ℕ
watch_tells a r = untold a r.state

-- The laws of a door of lines, at the small door.
abbrev pub WatchLaws : Type 0
WatchLaws = LineReaderLaws longest_line watch_line watch_long

-- The small door is one with updates, and however its bytes are cut, with an update of the session
-- after each piece it says and leaves the same.
abbrev pub WatchUpdates : Type 0
WatchUpdates =
    UpdateDoor watch_said (has_request longest_line) (with_piece longest_line) left watch_updated
    watch_tells
    × UpdatedCutLaw watch_said (has_request longest_line) (with_piece longest_line) left
    watch_updated watch_tells
