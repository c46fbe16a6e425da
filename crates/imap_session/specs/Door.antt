-- The door of clients of IMAP: its session, and what it says to each part of a command (RFC 3501,
-- sections 2.2 and 7.5, and RFC 2177). It is a door of parts.
use Rattle.std.specs.Prelude.{ℕ, Bool, false, not, ◌-◌, List, ◌++◌, length, take, codes, Option, Some, None, if◌then◌else◌}
use Rattle.arch_model.specs.Archives.{Archive}
use Rattle.line_door.specs.Acts.{Said, Departure}
use Rattle.line_door.specs.Lines.{content}
use Rattle.line_door.specs.Making.{says}
use Rattle.keep_course.specs.Courses.{ShelfDoor}
use Rattle.imap_words.specs.Words.{is_keyword}
use Rattle.imap_framer.specs.Framing.{PartFront, LastPart, LiteralPart, ExcessPart, OpenPart, Framing, fresh, front_of}
use Rattle.imap_framer.specs.Doors.{is_answered, framed_said}
use Rattle.imap_states.specs.Notices.{welcome_line, go_line, bye_memory_line}
use Rattle.imap_states.specs.Replies.{ImapReply, untagged_ways, end_said, excess_said}
use Rattle.imap_states.specs.States.{new_state, idles}
use Rattle.imap_states.specs.declared.state.ImapState.{ImapState}
use Rattle.imap_commands.specs.Replies.{command_said}
use Rattle.imap_commands.specs.Texts.{command_uses}

-- A session: its state, and the octets that it holds of a command.
abbrev pub ImapClient : Type 0
ImapClient = ImapState × Framing

-- A line may announce octets, unless the session idles.
abbrev pub takes_literals : ImapState → Bool
takes_literals s = not (idles s)

-- The line, with its line end, is `DONE` in any case.
abbrev pub is_done : List ℕ → Bool
is_done octets = is_keyword (codes "DONE") (content (take (length octets - 1) octets))

-- The reply to the octets of a whole command, in each way. While the session idles under a tag they
-- are a line, which ends that.
abbrev pub answered_by : Archive → ImapState → Option (List ℕ) → List ℕ → Departure → ImapReply
answered_by a s None octets way = command_said a s octets way
answered_by a s (Some tag) octets way = end_said a s tag (is_done octets) way

abbrev pub answered : Archive → ImapState → List ℕ → Departure → ImapReply
answered a s octets way = answered_by a s s.idle octets way

-- The reply to a part that announces octets, in each way: they may come. No tag was read.
abbrev pub go_on : Archive → ImapState → Departure → ImapReply
go_on a s way = untagged_ways a (says a s go_line) way

-- The words for a command that is too long, in a way. The session is closed then.
abbrev pub excess_words : Departure → Archive → ImapState → List ℕ
excess_words way a s = (excess_said a s way).words

-- The words for a rest that finds no memory. The session is closed then.
abbrev pub rest_words : Archive → ImapState → List ℕ
rest_words a s = bye_memory_line

-- What the door says to a session.
abbrev pub said : Archive → ImapClient → Departure → Said ImapClient Archive
said a client way = framed_said takes_literals answered go_on (excess_words way) rest_words a client way

-- The session starts with a part that has ended, or with octets that are too many.
abbrev pub has_request : ImapClient → Bool
has_request client = is_answered (front_of (takes_literals client.0) client.1)

-- The octets of a whole command may use the disk. A line that ends idling doesn't.
abbrev pub answer_uses : Archive → ImapState → List ℕ → Bool
answer_uses a s octets = if idles s then false else command_uses a s octets

-- The part at the front of a session does.
abbrev pub front_uses : Archive → ImapClient → PartFront → Bool
front_uses a client (LastPart part rest) = answer_uses a client.0 (client.1.held ++ part)
front_uses a client (LiteralPart part n rest) = false
front_uses a client (ExcessPart rest) = false
front_uses a client OpenPart = false

-- An act of a session does.
abbrev pub uses_disk : Archive → ImapClient → Bool
uses_disk a client = front_uses a client (front_of (takes_literals client.0) client.1)

-- The door: what it says, whether a part is answered now, and whether that may use the disk.
abbrev pub imap_door : ShelfDoor ImapClient
imap_door = record { said = said; is_request = has_request; uses_disk = uses_disk }

-- A new session: before its login, and without octets.
abbrev pub new_client : ImapClient
new_client = (new_state, fresh)

-- The greeting of a new session. It needs no memory and no disk.
abbrev pub greeting : Archive → Departure → Said ImapClient Archive
greeting a way = says a new_client welcome_line
