-- The door of clients that fetch mail: its session, and what it says to each line (RFC 1939, section
-- 3). It is an instance of the door of lines.
use Rattle.std.specs.Prelude.{ℕ, Bool, List, [], None}
use Rattle.arch_model.specs.Archives.{Archive}
use Rattle.line_door.specs.Acts.{Said, Departure}
use Rattle.line_door.specs.Making.{says}
use Rattle.line_door.specs.Readers.{LineReader, line_reader}
use Rattle.line_door.specs.Readers as readers
use Rattle.keep_course.specs.Courses.{ShelfDoor}
use Rattle.keep_course.specs.LineUses.{reader_uses}
use Rattle.pop3_reader.specs.Commands.{command_of}
use Rattle.pop3_reader.specs.Notices.{welcome_line}
use Rattle.pop3_reader.specs.Replies.{line_answered, too_long, reads_text}
use Rattle.pop3_reader.specs.declared.maildrop.PopState.{PopState}
use Rattle.pop3_reader.specs.declared.maildrop.PopState.TheVariants as state

-- The greatest length of a line with its line end, in octets.
abbrev pub line_limit : ℕ
line_limit = 255

-- A session: its state, and the bytes that are not answered yet.
abbrev pub PopClient : Type 0
PopClient = LineReader PopState

-- What the door says to a session.
abbrev pub said : Archive → PopClient → Departure → Said PopClient Archive
said a client way = readers.said line_limit line_answered too_long a client way

-- A line, without its line end, that may use the disk: RETR or TOP of a live message.
abbrev pub line_uses : Archive → PopState → List ℕ → Bool
line_uses a s line = reads_text a s (command_of line)

-- The door: what it says, whether a line has ended, and whether that may use the disk.
abbrev pub pop_door : ShelfDoor PopClient
pop_door = record {
  said = said;
  is_request = readers.has_request line_limit;
  uses_disk = reader_uses line_limit line_uses;
}

-- A new session: before the login, without an accepted mailbox.
abbrev pub new_client : PopClient
new_client = line_reader (state.Before None) []

-- The greeting of a new session. It needs no memory and no disk.
abbrev pub greeting : Archive → Departure → Said PopClient Archive
greeting a way = says a new_client welcome_line
