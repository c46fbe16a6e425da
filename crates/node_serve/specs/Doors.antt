-- All doors as one: the sessions of a server, and what each act of one says.
use Rattle.std.specs.Prelude.{ℕ, Bool, true, nat_lt, List, [], ◌++◌, Option, Some, None, if◌then◌else◌}
use Rattle.edge_io.specs.declared.events.Door.{Door}
use Rattle.edge_io.specs.declared.events.Door.TheVariants as door
use Rattle.line_door.specs.Acts.{Said, Departure}
use Rattle.line_door.specs.Clipped.{longest_line}
use Rattle.line_door.specs.Making.{says, closes, in_ways}
use Rattle.line_door.specs.Over.{said_over}
use Rattle.arch_model.specs.Archives.{Archive}
use Rattle.arch_model.specs.Standing.{LastKnown, standing}
use Rattle.arch_model.specs.declared.opening.OpenRefusal.{OpenRefusal}
use Rattle.keep_course.specs.Answering.{KeeperAsked, AsksReopening, reading_asked, said_reopening}
use Rattle.keep_course.specs.Courses.{KeeperDoor}
use Rattle.keep_course.specs.declared.refusal.Refusal.{Refusal}
use Rattle.keep_course.specs.declared.refusal.Refusal.TheVariants as refused
use Rattle.control_door.specs.Door as control
use Rattle.control_door.specs.Door.{Waiting, waiting}
use Rattle.nntp_reader.specs.Door as news
use Rattle.nntp_reader.specs.Door.{Reader, new_reader}
use Rattle.nntp_reader.specs.Notices as news_notices
use Rattle.http_front.specs.Door as pages
use Rattle.http_front.specs.Replies as page_replies
use Rattle.line_door.specs.Readers as readers
use Rattle.pop3_reader.specs.Door as pop
use Rattle.pop3_reader.specs.Door.{PopClient}
use Rattle.pop3_reader.specs.Notices as pop_notices
use Rattle.lmtp_door.specs.Door as mail
use Rattle.lmtp_door.specs.Door.{Guest}
use Rattle.lmtp_door.specs.Notices as mail_notices
use Rattle.imap_framer.specs.Doors.{framed_more}
use Rattle.imap_session.specs.Door as imap
use Rattle.imap_session.specs.Door.{ImapClient}
use Rattle.imap_states.specs.Notices as imap_notices
use Rattle.node_serve.specs.declared.session.Session.{Session}
use Rattle.node_serve.specs.declared.session.Session.TheVariants as session

-- A session at work on a piece. The archive has yet to be reopened before the piece, or the door's
-- acts are under way.
pub data SessionAtWork : Type 0 where
  Came : Session → List ℕ → SessionAtWork
  AtControl : Waiting → SessionAtWork
  AtNews : Reader → SessionAtWork
  AtPop : PopClient → SessionAtWork
  AtHttp : List ℕ → SessionAtWork
  AtLmtp : Guest → SessionAtWork
  AtImap : ImapClient → SessionAtWork

-- The session with more bytes after those that came.
abbrev pub more_bytes : List ℕ → SessionAtWork → SessionAtWork
more_bytes q (Came start piece) = Came start (piece ++ q)
more_bytes q (AtControl w) = AtControl (control.with_piece q w)
more_bytes q (AtNews reader) = AtNews (readers.with_piece longest_line q reader)
more_bytes q (AtPop client) = AtPop (readers.with_piece pop.line_limit q client)
more_bytes q (AtHttp bytes) = AtHttp (pages.with_piece q bytes)
more_bytes q (AtLmtp guest) = AtLmtp (mail.with_piece q guest)
more_bytes q (AtImap client) = AtImap (framed_more q client)

-- The session at its door, once the archive was reopened, before a byte of the piece.
abbrev pub at_door : Session → SessionAtWork
at_door (session.Control bytes) = AtControl (waiting bytes true)
at_door (session.News reader) = AtNews reader
at_door (session.Pop client) = AtPop client
at_door (session.Http bytes) = AtHttp bytes
at_door (session.Lmtp guest) = AtLmtp (mail.opened_guest guest)
at_door (session.Imap client) = AtImap client

-- The session with a piece after its bytes, once the archive was reopened.
abbrev pub with_piece : Session → List ℕ → SessionAtWork
with_piece start piece = more_bytes piece (at_door start)

-- The session between two pieces. At the door of LMTP less is kept than the bytes.
abbrev pub rest_of : SessionAtWork → Session
rest_of (Came start piece) = start
rest_of (AtControl w) = session.Control w.bytes
rest_of (AtNews reader) = session.News reader
rest_of (AtPop client) = session.Pop client
rest_of (AtHttp bytes) = session.Http bytes
rest_of (AtLmtp guest) = session.Lmtp (mail.kept guest)
rest_of (AtImap client) = session.Imap client

-- The session between two pieces, if it is open.
abbrev pub rest_if : Option SessionAtWork → Option Session
rest_if None = None
rest_if (Some h) = Some (rest_of h)

-- The door of a session.
abbrev pub door_of : Session → Door
door_of (session.Control bytes) = door.Control
door_of (session.News reader) = door.Nntp
door_of (session.Pop client) = door.Pop3
door_of (session.Http bytes) = door.Http
door_of (session.Lmtp guest) = door.Lmtp
door_of (session.Imap client) = door.Imap

-- A door's word at a moment for why it refuses a connection.
abbrev pub refusal_words : ℕ → Door → Refusal → List ℕ
refusal_words moment door.Control why = control.refusal_words why
refusal_words moment door.Nntp why = news_notices.refusal_words why
refusal_words moment door.Pop3 why = pop_notices.refusal_words why
refusal_words moment door.Http why = page_replies.refusal_words moment why
refusal_words moment door.Lmtp why = mail_notices.refusal_words why
refusal_words moment door.Imap why = imap_notices.refusal_words why

-- What a session's door says of an archive that was not opened, at a moment.
abbrev pub unopened_words : ℕ → Session → OpenRefusal → List ℕ
unopened_words moment start why = refusal_words moment (door_of start) (refused.Unopened why)

-- What a session of a reading door says, over the archive that stands.
abbrev pub said_reading : {H : Type 0} → (Archive → H → Departure → Said H Archive)
    → (H → SessionAtWork) → LastKnown → H → Departure → Said SessionAtWork LastKnown
said_reading door_said into s h way =
    said_over (λ (a : Archive). standing a s.in_doubt) into (door_said s.archive h way)

-- What a session says at a moment. Before a piece the archive is reopened, which finds the older one
-- or the one in doubt; or it is refused, and the door's word for that is said, and the connection is
-- closed. Each request is then answered as its door does. What the head of a request for a page asks
-- is `asked_in` of its bytes.
abbrev pub said : ℕ → LastKnown → SessionAtWork → Departure → Said SessionAtWork LastKnown
said moment s (Came start piece) way =
    said_reopening (unopened_words moment start) s (with_piece start piece) way
said moment s (AtControl w) way =
    said_over (λ (t : LastKnown). t) AtControl (control.said moment s w way)
said moment s (AtNews reader) way = said_reading (news.said moment) AtNews s reader way
said moment s (AtPop client) way = said_reading pop.said AtPop s client way
said moment s (AtHttp bytes) way = said_reading (pages.said moment) AtHttp s bytes way
said moment s (AtLmtp guest) way =
    said_over (λ (t : LastKnown). t) AtLmtp (mail.said moment s guest way)
said moment s (AtImap client) way = said_reading imap.said AtImap s client way

-- Something is to be done before a rest is kept: the archive is to be reopened, or a whole request is
-- at the front.
abbrev pub is_asked : SessionAtWork → Bool
is_asked (Came start piece) = true
is_asked (AtControl w) = control.has_request w
is_asked (AtNews reader) = readers.has_request longest_line reader
is_asked (AtPop client) = readers.has_request pop.line_limit client
is_asked (AtHttp bytes) = pages.has_request bytes
is_asked (AtLmtp guest) = mail.has_request guest
is_asked (AtImap client) = imap.has_request client

-- What an act asks of the keeper at a moment: a reopening before a piece, and then what its door's act
-- asks. A reading door's asks at most to read.
abbrev pub asks : ℕ → LastKnown → SessionAtWork → KeeperAsked
asks moment s (Came start piece) = AsksReopening
asks moment s (AtControl w) = control.asks s w
asks moment s (AtNews reader) = reading_asked ((news.news_at moment).uses_disk s.archive reader)
asks moment s (AtPop client) = reading_asked (pop.pop_door.uses_disk s.archive client)
asks moment s (AtHttp bytes) = reading_asked (pages.uses_disk s.archive bytes)
asks moment s (AtLmtp guest) = mail.asks s guest
asks moment s (AtImap client) = reading_asked (imap.imap_door.uses_disk s.archive client)

-- All doors as one at a moment.
abbrev pub doors_at : ℕ → KeeperDoor SessionAtWork
doors_at moment = record {
  said = said moment;
  is_request = is_asked;
  asks = asks moment;
  moment = moment;
}

-- The greatest number of open sessions.
abbrev pub session_limit : ℕ
session_limit = 256

-- A door's word at a moment for a server that is full.
abbrev pub busy_words : ℕ → Door → List ℕ
busy_words moment at = refusal_words moment at refused.Busy

-- A door's word at a moment for a session for which memory ran out.
abbrev pub memory_words : ℕ → Door → List ℕ
memory_words moment at = refusal_words moment at refused.NoMemory

-- A new session of a door, and its greeting. The control door and the door of pages say nothing.
abbrev pub opening_at : Door → Session × List ℕ
opening_at door.Control = (session.Control [], [])
opening_at door.Nntp = (session.News new_reader, news_notices.welcome_line)
opening_at door.Pop3 = (session.Pop pop.new_client, pop_notices.welcome_line)
opening_at door.Http = (session.Http [], [])
opening_at door.Lmtp = (session.Lmtp mail.new_guest, mail_notices.welcome_line)
opening_at door.Imap = (session.Imap imap.new_client, imap_notices.welcome_line)

-- What a door says to a new connection.
abbrev pub greets : Door → LastKnown → Said Session LastKnown
greets at s = says s (opening_at at).0 (opening_at at).1

-- A session is made, or refused because as many others are open as there may be.
abbrev pub made : ℕ → Door → ℕ → LastKnown → Said Session LastKnown
made moment at others s =
    if nat_lt others session_limit then greets at s else closes s (busy_words moment at)

-- Out of memory for a session, the door's word for that is said.
abbrev pub unmade : ℕ → Door → ℕ → LastKnown → Said Session LastKnown
unmade moment at others s = if nat_lt others session_limit
    then closes s (memory_words moment at) else closes s (busy_words moment at)

-- What the making of a session says at a moment, by how many others are open. It reads no disk.
abbrev pub said_making : ℕ → Door → ℕ → LastKnown → Departure → Said Session LastKnown
said_making moment at others s way = in_ways (made moment at others s) (unmade moment at others s)
    (made moment at others s) way
