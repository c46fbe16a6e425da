-- How many texts the door of readers reads at most to answer the bytes of a session.
use Rattle.std.specs.Prelude.{ℕ, List, length}
use Rattle.arch_model.specs.Archives.{Archive, live}
use Rattle.arch_model.specs.Shelves.{ReadsIn}
use Rattle.line_door.specs.Clipped.{longest_line}
use Rattle.line_door.specs.Costs.{lines_cost}
use Rattle.shelf_doors.specs.Numbers.{live_in}
use Rattle.nntp_reader.specs.Commands.{Articles, Single, Within, Header, Field, Command, Reads, Headers, command_of}
use Rattle.nntp_reader.specs.Commands as commands
use Rattle.nntp_reader.specs.Dates.{year_at}

-- How many texts a field of articles is read from: one for each live message.
abbrev pub field_texts : Archive → Articles → ℕ
field_texts a (Single article) = 1
field_texts a (Within range) = length (live_in (live a.entries) range.first range.last)

-- How many texts a header of articles is read from. Rows have the length and the number of lines.
abbrev pub header_texts : Archive → Header → Articles → ℕ
header_texts a commands.Bytes articles = 0
header_texts a commands.Lines articles = 0
header_texts a (Field name) articles = field_texts a articles

-- How many texts are read at most to answer a command: one for ARTICLE, HEAD and BODY, those of HDR
-- of a field, and none for any other.
abbrev pub command_texts : Archive → Command → ℕ
command_texts a (Reads what article) = 1
command_texts a (Headers header articles) = header_texts a header articles
command_texts a _ = 0

-- How many texts are read at most to answer a line, without its line end.
abbrev pub line_texts : ℕ → Archive → List ℕ → ℕ
line_texts moment a line = command_texts a (command_of (year_at moment) line)

-- A shelf: the archives that it holds.
module _ {S : Type 0} (holds : S → Archive → Type 0) where
  -- Whichever archive is held, no more texts were read than the lines that these bytes end ask for. A
  -- line that is too long asks for none.
  abbrev pub ReadsLines : ℕ → List ℕ → S → ℕ → ℕ → Type 0
  ReadsLines moment bytes shelf before now = ReadsIn holds
      (λ (a : Archive). lines_cost longest_line (line_texts moment a) bytes) shelf before now
