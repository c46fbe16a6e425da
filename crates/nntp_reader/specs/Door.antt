-- The door of readers, as a door of lines: its session, and what it says to each line (RFC 3977,
-- section 3.1).
use Rattle.std.specs.Prelude.{ℕ, Bool, List, []}
use Rattle.arch_model.specs.Archives.{Archive}
use Rattle.line_door.specs.Acts.{Said, Departure}
use Rattle.line_door.specs.Clipped.{longest_line}
use Rattle.line_door.specs.Making.{says}
use Rattle.line_door.specs.Readers.{LineReader, line_reader}
use Rattle.line_door.specs.Readers as readers
use Rattle.keep_course.specs.Courses.{ShelfDoor}
use Rattle.keep_course.specs.LineUses.{reader_uses}
use Rattle.nntp_reader.specs.Commands.{command_of}
use Rattle.nntp_reader.specs.Dates.{year_at}
use Rattle.nntp_reader.specs.Notices.{welcome_line}
use Rattle.nntp_reader.specs.Replies.{line_answered, too_long, reads_text}
use Rattle.nntp_reader.specs.declared.group.Group.{Group}
use Rattle.nntp_reader.specs.declared.group.Group.TheVariants as group

-- A session: its group, and the bytes that are not answered yet. Of a line only its first 512 octets
-- are kept, since a line with more is too long whatever follows.
abbrev pub Reader : Type 0
Reader = LineReader Group

-- What the door says to a session at a moment.
abbrev pub said : ℕ → Archive → Reader → Departure → Said Reader Archive
said moment a r way = readers.said longest_line (line_answered moment) too_long a r way

-- A line at a moment, without its line end, may use the disk: its command reads a text.
abbrev pub line_uses : ℕ → Archive → Group → List ℕ → Bool
line_uses moment a g line = reads_text a g (command_of (year_at moment) line)

-- The door at a moment: what it says, whether a line has ended, and whether that may use the disk.
abbrev pub news_at : ℕ → ShelfDoor Reader
news_at moment = record {
  said = said moment;
  is_request = readers.has_request longest_line;
  uses_disk = reader_uses longest_line (line_uses moment);
}

-- A new session, without a group.
abbrev pub new_reader : Reader
new_reader = line_reader group.Unselected []

-- The greeting of a new session. It needs no memory and no disk.
abbrev pub greeting : Archive → Departure → Said Reader Archive
greeting a way = says a new_reader welcome_line
