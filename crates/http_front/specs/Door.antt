-- What the door of pages answers. Its session is the bytes that are not answered yet, and its
-- requests read an archive and change nothing.
use Rattle.std.specs.Prelude.{ℕ, Bool, true, false, List, [], ◌∷◌, ◌++◌, Option, Some, None, if◌then◌else◌}
use Rattle.line_door.specs.Acts.{Said, Departure}
use Rattle.line_door.specs.Making.{closes, in_ways}
use Rattle.line_door.specs.Plain.{silent}
use Rattle.arch_model.specs.Archives.{Archive}
use Rattle.keep_course.specs.Courses.{ShelfDoor}
use Rattle.http_heads.specs.Heads.{Asked}
use Rattle.http_heads.specs.Replies.{verdict_of}
use Rattle.http_heads.specs.declared.reply.Status.TheVariants.{Done, BadRequest, NotFound, HeadTooLarge, ServerError, Unavailable}
use Rattle.http_heads.specs.declared.reply.Verdict.{Verdict}
use Rattle.http_heads.specs.declared.reply.Verdict.TheVariants.{Serve, Refuse}
use Rattle.http_front.specs.Fronts.{HeadFront, Whole, Long, Partial, front, is_whole, head_limit}
use Rattle.http_front.specs.Asking.{Found, Gives, Streams, Missing, BadRange, target_found, target_reads}
use Rattle.http_front.specs.Replies.{reply, word, word_of, bad_range}
use Rattle.http_front.specs.Reading.{asked_in}

-- What an act of a session says, and the bytes and the archive after it.
abbrev pub PageSays : Type 0
PageSays = Said (List ℕ) Archive

-- A reply. The session continues with the bytes after the request, or it is closed.
abbrev pub replies : Archive → List ℕ → Bool → Bool → List ℕ → PageSays
replies a rest ends streamed words =
    record { next = if ends then None else Some rest; words = words; streamed = streamed; after = a }

-- The reply to a request with what is found: a body, `not found`, or `bad range`. The body of a
-- mailbox file is streamed. `sends` is false for the method `HEAD`.
abbrev pub served : ℕ → Archive → Bool → Bool → List ℕ → Found → PageSays
served moment a sends ends rest (Gives body bytes) =
    replies a rest ends false (reply Done moment body bytes sends ends)
served moment a sends ends rest (Streams body bytes) =
    replies a rest ends sends (reply Done moment body bytes sends ends)
served moment a sends ends rest Missing = replies a rest ends false (word NotFound moment sends ends)
served moment a sends ends rest BadRange =
    replies a rest ends false (word_of BadRequest bad_range moment sends ends)

-- What is found, in each way. Out of memory, or if the disk fails where it is read, the connection is
-- closed with a word.
abbrev pub said_found : ℕ → Archive → Bool → Bool → List ℕ → Found → Bool → Departure → PageSays
said_found moment a sends ends rest found reads way =
    in_ways (served moment a sends ends rest found) (closes a (word Unavailable moment sends true))
    (if reads then closes a (word ServerError moment sends true)
    else served moment a sends ends rest found) way

-- A request in each way.
abbrev pub said_asked : ℕ → Archive → Asked → Bool → List ℕ → Departure → PageSays
said_asked moment a asked sends rest way = said_found moment a sends asked.closes rest
    (target_found a asked.target) (target_reads a asked.target) way

-- A refusal, which closes the connection and needs no memory.
abbrev pub said_verdict : ℕ → Archive → Asked → List ℕ → Verdict → Departure → PageSays
said_verdict moment a asked rest (Serve sends) way =
    said_asked moment a asked sends rest way
said_verdict moment a asked rest (Refuse status sends) way =
    closes a (word status moment sends true)

-- What is said to a head, by what it asks. What is no head is a bad request.
abbrev pub said_head : ℕ → Archive → Option Asked → List ℕ → Departure → PageSays
said_head moment a None rest way = closes a (word BadRequest moment true true)
said_head moment a (Some asked) rest way =
    said_verdict moment a asked rest (verdict_of (Some asked)) way

-- Out of memory for the beginning of a head, the connection is closed with a word. An empty rest
-- needs no memory.
abbrev pub unkept : ℕ → Archive → List ℕ → List ℕ → PageSays
unkept moment a bytes [] = silent a bytes
unkept moment a bytes (byte ∷ more) = closes a (word Unavailable moment true true)

-- The beginning of a head is kept without a word, or memory runs out.
abbrev pub said_keeping : ℕ → Archive → List ℕ → Departure → PageSays
said_keeping moment a bytes way =
    in_ways (silent a bytes) (unkept moment a bytes bytes) (silent a bytes) way

-- What is said to what is at the front. A head that is too long closes the connection.
abbrev pub said_at : ℕ → Archive → List ℕ → HeadFront → Departure → PageSays
said_at moment a bytes (Whole head rest) way = said_head moment a (asked_in head) rest way
said_at moment a bytes Long way = closes a (word HeadTooLarge moment true true)
said_at moment a bytes Partial way = said_keeping moment a bytes way

-- What the door says to a session at a moment.
abbrev pub said : ℕ → Archive → List ℕ → Departure → PageSays
said moment a bytes way = said_at moment a bytes (front head_limit bytes) way

-- The session starts with a whole head, or with one that is too long.
abbrev pub has_request : List ℕ → Bool
has_request bytes = is_whole (front head_limit bytes)

-- A head of which this becomes may use the disk: it is served, and texts are read for its target.
abbrev pub verdict_uses : Archive → Asked → Verdict → Bool
verdict_uses a asked (Serve sends) = target_reads a asked.target
verdict_uses a asked (Refuse status sends) = false

-- A head may, by what it asks.
abbrev pub head_uses : Archive → Option Asked → Bool
head_uses a None = false
head_uses a (Some asked) = verdict_uses a asked (verdict_of (Some asked))

-- What is at the front may.
abbrev pub page_front_uses : Archive → HeadFront → Bool
page_front_uses a (Whole head rest) = head_uses a (asked_in head)
page_front_uses a Long = false
page_front_uses a Partial = false

-- An act of a session may.
abbrev pub uses_disk : Archive → List ℕ → Bool
uses_disk a bytes = page_front_uses a (front head_limit bytes)

-- The door at a moment.
abbrev pub pages_at : ℕ → ShelfDoor (List ℕ)
pages_at moment = record { said = said moment; is_request = has_request; uses_disk = uses_disk }

-- The session with a piece after its bytes.
abbrev pub with_piece : List ℕ → List ℕ → List ℕ
with_piece piece bytes = bytes ++ piece
