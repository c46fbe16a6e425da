-- A small door, at which the laws of all doors are proved. It answers each line by itself, and
-- `quit` closes it.
use Rattle.std.specs.Prelude.{◌+◌, ◌==◌, ◌&&◌, ℕ, nat_eq, List, [], ◌∷◌, ◌++◌, length, codes, Bool, true, false}
use Rattle.std.specs.List.{starts_with}
use Rattle.line_door.specs.Acts.{Said, Departure}
use Rattle.line_door.specs.Making.{says, closes, in_ways}
use Rattle.line_door.specs.Lines.{LineFront, Whole, Long, Partial, front, is_whole, content}
use Rattle.line_door.specs.Plain.{silent}
use Rattle.line_door.specs.Course.{SessionState, Fed}
use Rattle.line_door.specs.Over.{said_over, talk_over}
use Rattle.line_door.specs.Cuts.{CutLaw, PiecesLaw, CallsLaw, PlainLaw, PlainIsFed, PlainIsAct}

-- The word for out of memory.
abbrev pub memory_word : List ℕ
memory_word = codes "12 no memory" ++ 10 ∷ []

-- The word for a line that is too long.
abbrev pub long_word : List ℕ
long_word = codes "13 bad line" ++ 10 ∷ []

-- The line is `quit`.
abbrev pub is_quit : List ℕ → Bool
is_quit line = (length line == 4) && starts_with nat_eq line (codes "quit")

-- The answer to a line: `quit` closes, and any other line is counted and sent back.
abbrev pub echo_plain : Bool → ℕ → List ℕ → List ℕ → Said (List ℕ) ℕ
echo_plain true a line rest = closes a []
echo_plain false a line rest = says (a + 1) rest (line ++ 10 ∷ [])

-- What a line says in each way. Out of memory, the line is skipped with a word.
abbrev pub echo_line : ℕ → List ℕ → List ℕ → Departure → Said (List ℕ) ℕ
echo_line a line rest way = in_ways (echo_plain (is_quit line) a line rest)
    (says a rest memory_word) (echo_plain (is_quit line) a line rest) way

-- What a rest says in each way. It is kept, but out of memory closes the session with a word.
abbrev pub echo_rest : ℕ → List ℕ → Departure → Said (List ℕ) ℕ
echo_rest a bytes way =
    in_ways (silent a bytes) (closes a memory_word) (silent a bytes) way

-- What the front of the bytes says in each way. A line that is too long closes the session.
abbrev pub echo_at : ℕ → List ℕ → LineFront → Departure → Said (List ℕ) ℕ
echo_at a bytes (Whole line rest) way = echo_line a (content line) rest way
echo_at a bytes Long way = closes a long_word
echo_at a bytes Partial way = echo_rest a bytes way

-- What the door says. Its session is the bytes not answered yet, and it counts the lines.
abbrev pub echo_said : ℕ → List ℕ → Departure → Said (List ℕ) ℕ
echo_said a bytes way = echo_at a bytes (front 512 bytes) way

-- The bytes start with a whole line, or with one that is too long.
abbrev pub echo_request : List ℕ → Bool
echo_request bytes = is_whole (front 512 bytes)

-- The session with more bytes.
abbrev pub echo_more : List ℕ → List ℕ → List ℕ
echo_more q bytes = bytes ++ q

-- The laws of the small door.

-- However its bytes are cut, the door says and leaves the same.
abbrev pub EchoCut : Type 0
EchoCut = CutLaw echo_said echo_request echo_more length

-- The courses of two pieces in order are a course of both at once.
abbrev pub EchoPieces : Type 0
EchoPieces = PiecesLaw echo_said echo_request echo_more length

-- The requests of a piece whose rest was kept begin the course of it and the next piece joined.
abbrev pub EchoCalls : Type 0
EchoCalls = CallsLaw echo_said echo_request echo_more length

-- A plain course is what the plain function says, and it is a course. A plain act is one by the
-- rules.
abbrev pub EchoPlain : Type 0
EchoPlain = PlainLaw echo_said echo_request echo_more length
    × PlainIsFed echo_said echo_request echo_more length
    × PlainIsAct echo_said echo_request echo_more length

-- The small door on one connection of many: its sessions carry the connection's number, and its
-- state is the count beside that of another door.

-- What it says to the session of a connection.
abbrev pub shared_said : (ℕ × ℕ) → (ℕ × List ℕ) → Departure → Said (ℕ × List ℕ) (ℕ × ℕ)
shared_said state session way = said_over (λ (count : ℕ). (count, state.1))
    (λ (bytes : List ℕ). (session.0, bytes)) (echo_said state.0 session.1 way)

-- Such a session starts with a whole line.
abbrev pub shared_request : (ℕ × List ℕ) → Bool
shared_request session = echo_request session.1

-- Each course of the small door is one there.
abbrev pub EchoLifts : Type 0
EchoLifts = (connection other : ℕ) (w v : SessionState (List ℕ) ℕ) → Fed echo_said echo_request w v
    → Fed shared_said shared_request
    (talk_over (λ (count : ℕ). (count, other)) (λ (bytes : List ℕ). (connection, bytes)) w)
    (talk_over (λ (count : ℕ). (count, other)) (λ (bytes : List ℕ). (connection, bytes)) v)
