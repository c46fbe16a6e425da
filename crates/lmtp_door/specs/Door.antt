-- The door of mail systems that hand over mail (RFC 2033): its session, and what it says to what is at
-- the session's front.
use Rattle.std.specs.Prelude.{◌+◌, ◌*◌, ℕ, zero, suc, Bool, true, false, nat_lt, List, [], ◌++◌, length, Option, Some, None, if◌then◌else◌}
use Rattle.line_door.specs.Acts.{Said, Departure, Plain, Memory, Disk, Newer}
use Rattle.line_door.specs.Clipped.{longest_line}
use Rattle.line_door.specs.Lines.{content}
use Rattle.line_door.specs.Making.{says, in_ways}
use Rattle.line_door.specs.Plain.{silent}
use Rattle.line_door.specs.Skipping.{SkippedLine, Taken, Skipped, Unended, skipping_front, held_of}
use Rattle.lmtp_data.specs.Readings.{DataReading, DataRead, Unfinished, Finished, data_limit, read_on}
use Rattle.arch_model.specs.Delivery.{delivered}
use Rattle.arch_model.specs.Standing.{LastKnown, standing, unsure}
use Rattle.arch_model.specs.declared.answer.Answer.TheVariants as answer
use Rattle.arch_model.specs.declared.opening.OpenRefusal.TheVariants as opening
use Rattle.keep_course.specs.Answering.{newer, KeeperAsked, AsksNoDisk, AsksReopening, AsksCommand, AsksDelivery}
use Rattle.keep_course.specs.Courses.{KeeperDoor}
use Rattle.lmtp_door.specs.Commands.{command_of}
use Rattle.lmtp_door.specs.Notices.{notice_line, is_bye, welcome_line, unopened_line, reply_line}
use Rattle.lmtp_door.specs.Phases.{LmtpPhase, Ungreeted, Greeted, Mailing, Receiving, Giving, LmtpReply, replied, starved}
use Rattle.lmtp_door.specs.declared.notice.LmtpNotice.TheVariants as notice
use Rattle.lmtp_door.specs.declared.order.LmtpOrder.{LmtpOrder}

-- A session: where it stands, its bytes that are not answered yet, and whether the archive was reopened
-- since the last recipient.
pub record Guest : Type 0 where
  pub phase : LmtpPhase
  pub bytes : List ℕ
  pub opened : Bool

-- The session of these parts.
abbrev pub guest : LmtpPhase → List ℕ → Bool → Guest
guest phase bytes opened = record { phase = phase; bytes = bytes; opened = opened }

-- A new session: before LHLO.
abbrev pub new_guest : Guest
new_guest = guest Ungreeted [] false

-- What an act of a session says, and the session and the archive after it.
abbrev pub LmtpSays : Type 0
LmtpSays = Said Guest LastKnown

-- The greeting of a new session. It needs no memory and no disk.
abbrev pub greeting : LastKnown → Departure → LmtpSays
greeting s way = says s new_guest welcome_line

-- What is at the front of a session: a line, without its line end; a line that is too long; data that has
-- ended, with its octets and their count, for a recipient and so many more; one of the recipients of such
-- data, and so many more; or the beginning of a line or of data. The bytes after it come last.
pub data LmtpFront : Type 0 where
  Commanded : List ℕ → List ℕ → LmtpFront
  Overlong : List ℕ → LmtpFront
  DataEnds : ℕ → List ℕ → ℕ → List ℕ → LmtpFront
  GivesTo : ℕ → List ℕ → ℕ → List ℕ → LmtpFront
  NotYet : LmtpFront

-- The front in a phase that reads lines.
abbrev pub line_front : SkippedLine → LmtpFront
line_front (Taken line rest) = Commanded (content line) rest
line_front (Skipped rest) = Overlong rest
line_front Unended = NotYet

-- The front in the data, by what was read of it.
abbrev pub data_front : ℕ → DataRead → LmtpFront
data_front n (Unfinished r) = NotYet
data_front n (Finished text count rest) = DataEnds n text count rest

-- The front of these bytes in a phase.
abbrev pub front_in : LmtpPhase → List ℕ → LmtpFront
front_in Ungreeted bytes = line_front (skipping_front longest_line bytes)
front_in Greeted bytes = line_front (skipping_front longest_line bytes)
front_in (Mailing n) bytes = line_front (skipping_front longest_line bytes)
front_in (Receiving n r) bytes = data_front n (read_on data_limit r bytes)
front_in (Giving n text count) bytes = GivesTo n text count bytes

-- The front of a session.
abbrev pub front_of : Guest → LmtpFront
front_of g = front_in g.phase g.bytes

-- The session after a command, or none after `221 bye`.
abbrev pub next_after : Bool → LmtpPhase → List ℕ → Bool → Option Guest
next_after true phase rest opened = None
next_after false phase rest opened = Some (guest phase rest opened)

-- A reply to a command as an act, after which these bytes follow.
abbrev pub as_said : LastKnown → List ℕ → Bool → LmtpReply → LmtpSays
as_said s rest opened r = record {
  next = next_after (is_bye r.notice) r.phase rest opened;
  words = notice_line r.notice;
  streamed = false;
  after = s;
}

-- What is said to a command in a phase.
abbrev pub said_order : LastKnown → LmtpPhase → Bool → LmtpOrder → List ℕ → Departure → LmtpSays
said_order s phase opened asked rest way = in_ways (as_said s rest opened (replied phase asked))
    (as_said s rest opened (starved phase asked)) (as_said s rest opened (replied phase asked)) way

-- The session after a recipient was answered and `n` are left. Without any the transaction is dropped,
-- whatever was answered.
abbrev pub given_to : ℕ → List ℕ → ℕ → List ℕ → Guest
given_to zero text count rest = guest Greeted rest false
given_to (suc n) text count rest = guest (Giving n text count) rest false

-- The archive is reopened before a recipient, without a word; or that is refused, which is the
-- recipient's reply, and the session goes on as `next`.
abbrev pub said_opening : LastKnown → Guest → Guest → Departure → LmtpSays
said_opening s ready next Plain = says (standing s.archive None) ready []
said_opening s ready next Newer = says (standing (newer s) None) ready []
said_opening s ready next Memory = says s next (unopened_line opening.NoMemory)
said_opening s ready next Disk = says (unsure s) next (unopened_line opening.DiskFault)

-- The data is delivered to a recipient, whose reply is the answer to that. Out of memory nothing is
-- delivered, and after a fault of the disk it is in doubt whether it was.
abbrev pub said_giving : ℕ → LastKnown → List ℕ → Guest → Departure → LmtpSays
said_giving moment s text next way = in_ways
    (says (standing (delivered s.archive text moment).archive None) next
    (reply_line (delivered s.archive text moment).answer))
    (says s next (reply_line answer.NoMemory))
    (says (standing s.archive (Some (delivered s.archive text moment).archive)) next
    (reply_line answer.DiskFault)) way

-- What is said to a recipient: data that is too long is delivered to none, and else the archive is
-- reopened, if it wasn't since the last recipient, and the data is delivered.
abbrev pub said_to_one : Bool → Bool → ℕ → LastKnown → ℕ → List ℕ → ℕ → List ℕ → Departure → LmtpSays
said_to_one true opened moment s n text count rest way =
    says s (given_to n text count rest) (reply_line (answer.TooLarge count))
said_to_one false true moment s n text count rest way =
    said_giving moment s text (given_to n text count rest) way
said_to_one false false moment s n text count rest way =
    said_opening s (guest (Giving n text count) rest true) (given_to n text count rest) way

-- What is said to what is at the front of a session at a moment. A command is read as at a list of the
-- archive's name. The end of the data says nothing by itself.
abbrev pub said_at : ℕ → LastKnown → Guest → LmtpFront → Departure → LmtpSays
said_at moment s g (Commanded line rest) way =
    said_order s g.phase g.opened (command_of s.archive.config.name line) rest way
said_at moment s g (Overlong rest) way =
    says s (guest g.phase rest g.opened) (notice_line notice.LineTooLong)
said_at moment s g (DataEnds n text count rest) way =
    says s (guest (Giving n text count) rest g.opened) []
said_at moment s g (GivesTo n text count rest) way =
    said_to_one (nat_lt data_limit count) g.opened moment s n text count rest way
said_at moment s g NotYet way = silent s g

-- What the door says to a session at a moment.
abbrev pub said : ℕ → LastKnown → Guest → Departure → LmtpSays
said moment s g way = said_at moment s g (front_of g) way

-- The front is whole.
abbrev pub is_whole : LmtpFront → Bool
is_whole NotYet = false
is_whole other = true

-- The session starts with a whole request: a line that has ended, data that has ended, or a recipient
-- that is left.
abbrev pub has_request : Guest → Bool
has_request g = is_whole (front_of g)

-- What a recipient asks of the keeper, given whether the data is too long, and whether the archive was
-- reopened since the last recipient: nothing for which the disk is used, to be reopened, or to deliver
-- the data.
abbrev pub asks_to_one : Bool → Bool → List ℕ → KeeperAsked
asks_to_one true opened text = AsksNoDisk
asks_to_one false true text = AsksCommand (AsksDelivery text)
asks_to_one false false text = AsksReopening

-- What is asked of it at what is at the front of a session. A line and data ask nothing for which the
-- disk is used.
abbrev pub asks_for : Bool → LmtpFront → KeeperAsked
asks_for opened (GivesTo n text count rest) = asks_to_one (nat_lt data_limit count) opened text
asks_for opened other = AsksNoDisk

-- What an act of a session asks of the keeper.
abbrev pub asks : LastKnown → Guest → KeeperAsked
asks s g = asks_for g.opened (front_of g)

-- The door at a moment.
abbrev pub lmtp_at : ℕ → KeeperDoor Guest
lmtp_at moment = record {
  said = said moment;
  is_request = has_request;
  asks = asks;
  moment = moment;
}

-- The session, once the archive was reopened.
abbrev pub opened_guest : Guest → Guest
opened_guest g = guest g.phase g.bytes true

-- The session with a piece after its bytes.
abbrev pub with_piece : List ℕ → Guest → Guest
with_piece piece g = guest g.phase (g.bytes ++ piece) g.opened

-- What is kept of data that goes on.
abbrev pub kept_data : ℕ → DataReading → DataRead → LmtpPhase
kept_data n r (Unfinished new) = Receiving n new
kept_data n r (Finished text count rest) = Receiving n r

-- What is kept of a session without a whole request: of a line its first octets, which say already
-- whether it is too long, and of data what was read.
abbrev pub kept_in : LmtpPhase → List ℕ → Guest
kept_in (Receiving n r) bytes = guest (kept_data n r (read_on data_limit r bytes)) [] false
kept_in phase bytes = guest phase (held_of longest_line bytes) false

-- The same of a session.
abbrev pub kept : Guest → Guest
kept g = kept_in g.phase g.bytes

-- How many recipients are not answered yet, or were accepted.
abbrev pub recipients : LmtpPhase → ℕ
recipients Ungreeted = 0
recipients Greeted = 0
recipients (Mailing n) = n
recipients (Receiving n r) = suc n
recipients (Giving n text count) = suc n

-- The size of a session. Each request makes it smaller.
abbrev pub size_of : Guest → ℕ
size_of g = 4 * length g.bytes + 2 * recipients g.phase + (if g.opened then 0 else 1)
