-- The acts of the code are acts of a session.
use Rattle.std.specs.Prelude.{◌≡◌, ◌<◌, ◌≤◌, ◌⊎◌, ◌&&◌, not, is_ok, ℕ, Bool, true, false, List, ◌++◌, length, take, drop, reverse, Option, Some, None, Result, Ok, Err, IfOk}
use Rattle.line_door.specs.Acts.{ConnectionState, Departure, Acts, held_if}
use Rattle.line_door.specs.Making as door
use Rattle.line_door.specs.Making.{in_ways}
use Rattle.line_door.specs.Course.{talk}
use Rattle.keep_course.specs.Courses.{ShelfRun}
use Rattle.arch_model.specs.declared.shelf.Shelf.{Ghosts as Shelf}
use Rattle.arch_model.specs.Archives.{Archive, live}
use Rattle.arch_model.specs.Shelves.{ReadsUpTo, ReadsAhead, ReadsIn}
use Rattle.arch_base.specs.Ids.{id_bytes}
use Rattle.arch_base.specs.declared.sequence.NoMemory.{NoMemory}
use Rattle.arch_model.specs.declared.text_refusal.TextRefusal.{TextRefusal}
use Rattle.arch_model.specs.declared.text_refusal.TextRefusal.TheVariants as refusal
use Rattle.edge_io.specs.Phrases.{Says}
use Rattle.edge_io.specs.declared.sink.SinkFault.{SinkFault}
use Rattle.http_heads.specs.Heads.{Asked}
use Rattle.http_heads.specs.declared.reply.Body.{Body}
use Rattle.http_heads.specs.declared.reply.Body.TheVariants.{Mailbox}
use Rattle.http_heads.specs.declared.reply.Status.TheVariants.{Done, ServerError, Unavailable}
use Rattle.http_front.specs.Views.{shown_row, shown_text}
use Rattle.http_front.specs.Threads.{thread_rows, oldest_first}
use Rattle.http_front.specs.Asking.{Found, Gives, Streams, Missing, BadRange, message_found, text_found, thread_found, feed_found, feed_len}
use Rattle.http_front.specs.Counting.{thread_len, head_texts, texts_for_bytes, bytes_read_nothing}
use Rattle.http_front.specs.Door.{PageSays as SaysAct, replies, said_found, said, said_head, said_asked, has_request, pages_at}
use Rattle.http_front.specs.Mailboxes.{mailbox_at, whole_mailbox}
use Rattle.http_front.specs.Replies.{reply, word, word_of, damaged_line}
use Rattle.http_front.specs.declared.session.Act.{Act}
use Rattle.http_front.specs.declared.session.Act.TheVariants.{Went, Kept, Closed}
use Rattle.http_front.specs.declared.found.FoundBody.{FoundBody}
use Rattle.http_front.specs.declared.found.FoundBody.TheVariants as what
use Rattle.http_front.specs.declared.found.Form.{Form}
use Rattle.http_front.specs.declared.found.Form.TheVariants as form
use Rattle.http_front.specs.Reading.{asked_in}

-- One act on the bytes at the front: a request that took `n` bytes of the piece and left the session
-- open, or the keeping of the piece, or the close.
abbrev pub IsPageAct : ℕ → Archive → List ℕ → List ℕ → ConnectionState → Act → List ℕ
    → ConnectionState → Type 0
IsPageAct moment a old piece i (Went n) new j =
    (has_request (old ++ piece) ≡ true)
    × Acts (said moment a (old ++ piece)) i (Some (new ++ drop n piece)) a j
IsPageAct moment a old piece i Kept new j =
    (has_request (old ++ piece) ≡ false) × (j.disk ≡ i.disk)
    × Acts (said moment a (old ++ piece)) i (Some new) a j
IsPageAct moment a old piece i Closed new j =
    Acts (said moment a (old ++ piece)) i None a j

-- A request takes bytes of the piece.
abbrev pub TakesHead : List ℕ → Act → Type 0
TakesHead piece (Went n) = (0 < n) × (n ≤ length piece)
TakesHead piece Kept = Unit {0}
TakesHead piece Closed = Unit {0}

-- One act reads no more than leaves enough for the bytes after it. A part of a head that is kept asks
-- for no text, and nothing follows a close.
abbrev pub PageActReads : Archive → List ℕ → List ℕ → Act → List ℕ → ℕ → ℕ → Type 0
PageActReads a old piece (Went n) new before now = ReadsAhead
    (texts_for_bytes a (old ++ piece)) (texts_for_bytes a (new ++ drop n piece)) before now
PageActReads a old piece Kept new before now = now ≡ before
PageActReads a old piece Closed new before now =
    ReadsUpTo (texts_for_bytes a (old ++ piece)) before now

-- What was found under a target, as the code has it: the body, or the numbers of a mailbox file, for
-- which texts are read.
abbrev pub IsHeldFor : Archive → Found → Bool → FoundBody → Type 0
IsHeldFor a found reads (what.Whole body bytes) = found ≡ Gives body bytes
IsHeldFor a found reads what.EveryMail = (found ≡ Streams Mailbox (whole_mailbox a.entries))
    × (reads ≡ true)
IsHeldFor a found reads (what.Mails numbers) =
    (found ≡ Streams Mailbox (mailbox_at a.entries numbers)) × (reads ≡ true)
IsHeldFor a found reads what.Nothing = found ≡ Missing
IsHeldFor a found reads what.BadRange = found ≡ BadRange

-- What stands under a target was found, or memory ran out; or the disk failed, where texts are read.
abbrev pub FindsTarget : Archive → Found → Bool → Result FoundBody TextRefusal → Type 0
FindsTarget a found reads (Ok held) = IsHeldFor a found reads held
FindsTarget a found reads (Err refusal.DiskFault) = reads ≡ true
FindsTarget a found reads (Err (refusal.Damaged named found')) = ⊥
FindsTarget a found reads (Err refusal.NoMemory) = Unit {0}

-- A page was made, or there is none, or what is asked is no query; or memory ran out.
abbrev pub MakesPage : Found → Result FoundBody NoMemory → Type 0
MakesPage found (Ok (what.Whole body bytes)) = found ≡ Gives body bytes
MakesPage found (Ok what.Nothing) = found ≡ Missing
MakesPage found (Ok what.BadRange) = found ≡ BadRange
MakesPage found (Ok what.EveryMail) = ⊥
MakesPage found (Ok (what.Mails numbers)) = ⊥
MakesPage found (Err refused) = Unit {0}

-- What is found of a live number, by the form in which it is asked for.
abbrev pub form_found : Archive → Form → ℕ → Found
form_found a form.Message n = message_found a (shown_row a n) (shown_text a.entries n)
form_found a form.Text n = text_found (shown_text a.entries n)
form_found a form.Thread n = thread_found a n (shown_row a n)
form_found a form.Feed n =
    feed_found a (take feed_len (reverse (oldest_first (thread_rows a n))))
form_found a form.Mailbox n =
    Streams Mailbox (mailbox_at a.entries (oldest_first (thread_rows a n)))

-- Texts are read for a form.
abbrev pub form_reads : Form → Bool
form_reads form.Thread = false
form_reads other = true

-- How many texts are read at most while what is asked for in a form is said, if a live mail has the id.
abbrev pub form_said : Archive → Form → Option ℕ → ℕ
form_said a form.Mailbox o = thread_len a o
form_said a other o = 0

-- How many texts are still to be read for what was found, while it is said.
abbrev pub unread : Archive → FoundBody → ℕ
unread a what.EveryMail = length (live a.entries)
unread a (what.Mails numbers) = length numbers
unread a other = 0

-- How many texts are read at most to find what is asked for in a form.
abbrev pub form_texts : Form → ℕ
form_texts form.Message = 1
form_texts form.Text = 1
form_texts form.Thread = 0
form_texts form.Feed = feed_len
form_texts form.Mailbox = 0

-- A streamed reply of these words in each way: the words, or why no text was read.
abbrev pub said_stream : ℕ → Archive → Bool → List ℕ → List ℕ → Departure → SaysAct
said_stream moment a ends rest words = in_ways (replies a rest ends true words)
    (door.closes a (word Unavailable moment true true))
    (door.closes a (word ServerError moment true true))

-- The reply with a mailbox file in each way.
abbrev pub said_mailbox : ℕ → Archive → Bool → Bool → List ℕ → List ℕ → Departure → SaysAct
said_mailbox moment a sends ends rest bytes =
    said_found moment a sends ends rest (Streams Mailbox bytes) true

-- A shelf: the archives that it holds.
module _ {S : Type 0} (holds : S → Archive → Type 0) where
  -- Whichever archive is held, this was found.
  abbrev pub FindsIn : (Archive → Found) → (Archive → Bool) → S → Result FoundBody TextRefusal → Type 0
  FindsIn found reads shelf result = (a : Archive) → holds shelf a
      → FindsTarget a (found a) (reads a) result

  -- Whichever archive is held, at most so many texts are still to be read for what was found.
  abbrev pub LeavesUnreadIn : (Archive → ℕ) → S → Result FoundBody TextRefusal → Type 0
  LeavesUnreadIn most shelf result = (a : Archive) → holds shelf a
      → IfOk result (λ held. unread a held ≤ most a)

  -- Whichever archive is held, a head was answered, and at most so many texts were read.
  abbrev pub ReadsHead : List ℕ → S → ℕ → ℕ → Type 0
  ReadsHead head shelf before now =
      ReadsIn holds (λ (a : Archive). head_texts a (asked_in head)) shelf before now

  -- Whichever archive is held, one act reads no more than leaves enough for the bytes after it.
  abbrev pub ReadsTurn : List ℕ → List ℕ → S → Act → List ℕ → ℕ → ℕ → Type 0
  ReadsTurn old piece shelf turn new before now = (a : Archive) → holds shelf a
      → PageActReads a old piece turn new before now

  -- Whichever archive is held, no more texts were read than the heads that are answered ask for.
  abbrev pub ReadsBytes : List ℕ → S → ℕ → ℕ → Type 0
  ReadsBytes bytes shelf before now =
      ReadsIn holds (λ (a : Archive). texts_for_bytes a bytes) shelf before now

  -- Whichever archive is held, no text was read if none of the heads that are answered asks for one.
  abbrev pub ReadsNothing : List ℕ → S → ℕ → ℕ → Type 0
  ReadsNothing bytes shelf before now = (a : Archive) → holds shelf a
      → bytes_read_nothing a bytes ≡ true → now ≡ before

  -- Whichever archive is held, the count of faults stays if this doesn't use the disk.
  abbrev pub SparesIn : (Archive → Bool) → S → ℕ → ℕ → Type 0
  SparesIn uses shelf before now = (a : Archive) → holds shelf a → uses a ≡ false → now ≡ before

  -- Whichever archive is held and whatever follows, a head is answered.
  abbrev pub AnswersHead : ℕ → List ℕ → S → ConnectionState → Bool → ConnectionState → Type 0
  AnswersHead moment head shelf i goes_on j = (a : Archive) (rest : List ℕ) → holds shelf a
      → Acts (said_head moment a (asked_in head) rest) i (held_if goes_on rest) a j

  -- Whichever archive is held and whatever follows, a request is served.
  abbrev pub Serves : ℕ → Asked → Bool → S → ConnectionState → Bool → ConnectionState → Type 0
  Serves moment asked sends shelf i goes_on j = (a : Archive) (rest : List ℕ) → holds shelf a
      → Acts (said_asked moment a asked sends rest) i (held_if goes_on rest) a j

  -- Whichever archive is held and whatever follows, the reply with a mailbox file is said.
  abbrev pub ServesMailbox : (Archive → List ℕ) → ℕ → Bool → Bool → S → ConnectionState → Bool
      → ConnectionState
      → Type 0
  ServesMailbox bytes moment sends closes shelf i goes_on j = (a : Archive) (rest : List ℕ)
      → holds shelf a → Acts (said_mailbox moment a sends closes rest (bytes a)) i
      (held_if goes_on rest) a j

  -- The same by the words of the reply, of which none were said yet.
  abbrev pub StreamsOn : (Archive → List ℕ) → ℕ → Bool → S → ConnectionState → Bool → ConnectionState → Type 0
  StreamsOn words moment closes shelf i goes_on j = (a : Archive) (rest : List ℕ) → holds shelf a
      → Acts (said_stream moment a closes rest (words a)) i (held_if goes_on rest) a j

  -- Whichever archive is held, one act is done.
  abbrev pub PageActs : ℕ → List ℕ → List ℕ → S → ConnectionState → Act → List ℕ → ConnectionState → Type 0
  PageActs moment old piece shelf i turn new j = (a : Archive) → holds shelf a
      → IsPageAct moment a old piece i turn new j

-- Whichever archive a shelf holds, these bytes of a session are answered by a course.
abbrev pub AnswersPages : {S : Type 0} → Shelf S → ℕ → List ℕ → S → ConnectionState → Bool → List ℕ → S
    → ConnectionState → Type 0
AnswersPages g moment bytes old i goes_on left new j = (a : Archive) → g.holds old a
    → ShelfRun g (pages_at moment) old new (talk (Some bytes) a i)
    (talk (held_if goes_on left) a j)

-- The words were taken, and the session continues unless the reply closes it; or they were lost, and
-- it is closed.
pub record SaysThen (words : List ℕ) (closes : Bool) (out : Option (List ℕ)) (lost : ℕ)
    (out' : Option (List ℕ)) (lost' : ℕ) (goes_on : Bool) : Type 0 where
  pub sent : Result Unit SinkFault
  pub says : Says words out lost out' lost' sent
  pub next : goes_on ≡ is_ok sent && not closes

-- A reply with a body was said, or that memory ran out, which closes the session.
abbrev pub SaysWhole : Body → List ℕ → ℕ → Bool → Bool → Option (List ℕ) → ℕ → Option (List ℕ) → ℕ
    → Bool → Type 0
SaysWhole body bytes moment sends closes out lost out' lost' goes_on =
    SaysThen (reply Done moment body bytes sends closes) closes out lost out' lost' goes_on
    ⊎ SaysThen (word Unavailable moment sends true) true out lost out' lost' goes_on

-- It was said why a text was not read, and that the connection is closed. Out of memory for the ids of
-- a damaged text, that is said.
abbrev pub PageSaysUnread : TextRefusal → ℕ → Bool → Option (List ℕ) → ℕ → Option (List ℕ) → ℕ
    → Result Unit SinkFault → Type 0
PageSaysUnread refusal.DiskFault moment sends out lost out' lost' sent =
    Says (word ServerError moment sends true) out lost out' lost' sent
PageSaysUnread refusal.NoMemory moment sends out lost out' lost' sent =
    Says (word Unavailable moment sends true) out lost out' lost' sent
PageSaysUnread (refusal.Damaged named found) moment sends out lost out' lost' sent =
    Says (word_of ServerError (damaged_line (id_bytes named) (id_bytes found)) moment sends true)
    out lost out' lost' sent
    ⊎ Says (word Unavailable moment sends true) out lost out' lost' sent
