-- Private: the acts of the code.
use Rattle.std.specs.Prelude.{◌≡◌, ◌⊎◌, ℕ, Bool, true, false, List, [], Option, Some, None, Result, Ok, Err}
use Rattle.mail_forms.specs.NamedValues.{flat_first}
use Rattle.arch_model.specs.Archives.{Archive}
use Rattle.arch_model.specs.Shelves.{IsUndamaged}
use Rattle.arch_model.specs.declared.text_refusal.TextRefusal.{TextRefusal}
use Rattle.edge_io.specs.Phrases.{Says}
use Rattle.edge_io.specs.declared.sink.SinkFault.{SinkFault}
use Rattle.line_door.specs.Acts.{ConnectionState}
use Rattle.line_door.specs.Clipped.{longest_line}
use Rattle.line_door.specs.Turns.{IsLineAct}
use Rattle.line_door.specs.declared.turn.LineAct.{LineAct}
use Rattle.shelf_doors.specs.Refusals.{SaysUnread}
use Rattle.nntp_reader.specs.Commands as commands
use Rattle.nntp_reader.specs.Commands.{Article, Articles, Header, Command}
use Rattle.nntp_reader.specs.Door.{Reader}
use Rattle.nntp_reader.specs.Headers.{header_start}
use Rattle.nntp_reader.specs.Notices.{refused_code}
use Rattle.nntp_reader.specs.Replies.{line_answered, too_long}
use Rattle.nntp_reader.specs.declared.group.Group.{Group}
use Rattle.nntp_reader.specs.declared.order.Named.{Named}
use Rattle.nntp_reader.specs.declared.order.Named.TheVariants as named
use Rattle.nntp_reader.specs.declared.order.Span.{Span}
use Rattle.nntp_reader.specs.declared.order.Span.TheVariants as span
use Rattle.nntp_reader.specs.declared.order.Asked.{Asked}
use Rattle.nntp_reader.specs.declared.order.Asked.TheVariants as asked
use Rattle.nntp_reader.specs.declared.order.Order.{Order}
use Rattle.nntp_reader.specs.declared.order.Order.TheVariants as order

-- The article that was read.
abbrev pub article_of : Named → Article
article_of named.Current = commands.Current
article_of (named.Number n) = commands.Numbered n
article_of (named.Id id) = commands.Identified id.now

-- The articles that were read.
abbrev pub articles_of : Span → Articles
articles_of (span.Single article) = commands.Single (article_of article)
articles_of (span.Within range) = commands.Within range

-- The header that was read.
abbrev pub header_of : Asked → Header
header_of asked.Bytes = commands.Bytes
header_of asked.Lines = commands.Lines
header_of (asked.Field name) = commands.Field name.now

-- The command that was read.
abbrev pub meant : Order → Command
meant order.Capabilities = commands.Capabilities
meant order.ModeReader = commands.ModeReader
meant order.Date = commands.Date
meant order.Help = commands.Help
meant order.Quit = commands.Quit
meant order.Post = commands.Post
meant order.Next = commands.Next
meant order.Last = commands.Last
meant (order.Group name) = commands.Group name.now
meant (order.ListSelected range) = commands.ListGroup None range
meant (order.ListGroup name range) = commands.ListGroup (Some name.now) range
meant (order.Read what article) = commands.Reads what (article_of article)
meant (order.Stat article) = commands.Stat (article_of article)
meant (order.Over articles) = commands.Over (articles_of articles)
meant (order.Header header articles) = commands.Headers (header_of header) (articles_of articles)
meant (order.List what) = commands.Lists what None
meant (order.ListMatching what wildmat) = commands.Lists what (Some wildmat.now)
meant (order.NewGroups moment) = commands.NewGroups moment
meant (order.NewNews wildmat moment) = commands.NewNews wildmat.now moment
meant order.Mistaken = commands.Mistaken
meant order.Unknown = commands.Unknown

-- The value of a field was read, or why not.
abbrev pub ReadsValue : List ℕ → Option (List ℕ) → Result (List ℕ) TextRefusal → Type 0
ReadsValue name text (Ok value) =
    (found : List ℕ) × (text ≡ Some found) × (value ≡ flat_first name found)
ReadsValue name text (Err refusal) = IsUndamaged refusal

-- These words were said of a text that was read, and the group is the one after them; or it was said
-- why the text was not read, and the group stays.
abbrev pub SaysOrNot : List ℕ → Group → Group → ConnectionState → Result Unit SinkFault → Group
    → ConnectionState
    → Type 0
SaysOrNot words after g i sent new j =
    ((j.disk ≡ i.disk) × (new ≡ after) × Says words i.out i.lost j.out j.lost sent)
    ⊎ ((new ≡ g) × SaysUnread refused_code i sent j)

-- The line before the values of HDR, if it was not said yet.
abbrev pub start_if : Bool → List ℕ
start_if true = header_start
start_if false = []

-- One act on the bytes at the front of a session, at a moment.
abbrev pub IsNewsAct : ℕ → Archive → Reader → List ℕ → ConnectionState → LineAct → Reader
    → ConnectionState → Type 0
IsNewsAct moment = IsLineAct longest_line (line_answered moment) too_long
