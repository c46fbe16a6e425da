-- Events of a server, and their form in a script.
use Rattle.std.specs.Prelude.{◌≡◌, ◌≤◌, ◌<◌, ℕ, List, [], ◌∷◌, ◌++◌, codes, length}
use Rattle.std.specs.Fmt.{decimal}
use Rattle.arch_base.specs.Moments.{IsMoment}
use Rattle.edge_io.specs.declared.events.Event.{Event}
use Rattle.edge_io.specs.declared.events.What.{What}
use Rattle.edge_io.specs.declared.events.What.TheVariants.{Opened, Bytes, Ended, Quiet, Stop}
use Rattle.edge_io.specs.declared.events.Door.{Door}
use Rattle.edge_io.specs.declared.events.Door.TheVariants.{Control, Http, Nntp, Pop3, Imap, Lmtp}

-- The connections of a script.
abbrev pub IsConnection : ℕ → Type 0
IsConnection conn = conn < 65536

-- The doors of a script: all that there are.
abbrev pub IsDoor : Door → Type 0
IsDoor door = Unit {0}

-- The length of a piece in bytes.
abbrev pub IsPieceLen : ℕ → Type 0
IsPieceLen len = (1 ≤ len) × (len ≤ 1048576)

-- What may happen in a script.
abbrev pub IsWhat : What → Type 0
IsWhat (Opened conn door) = IsConnection conn × IsDoor door
IsWhat (Bytes conn len) = IsConnection conn × IsPieceLen len
IsWhat (Ended conn) = IsConnection conn
IsWhat Quiet = Unit {0}
IsWhat Stop = Unit {0}

-- The length in bytes of the piece that comes with an event.
abbrev pub piece_len : What → ℕ
piece_len (Opened conn door) = 0
piece_len (Bytes conn len) = len
piece_len (Ended conn) = 0
piece_len Quiet = 0
piece_len Stop = 0

-- The ranges of an event in a script.
pub record IsScriptLine (event : Event) : Type 0 where
  pub moment : IsMoment event.moment
  pub what : IsWhat event.what

-- An event of a script with its piece, which is empty if the event has none.
pub record IsEvent (event : Event) (piece : List ℕ) : Type 0 where
  pub in_range : IsScriptLine event
  pub whole : length piece ≡ piece_len event.what

-- The name of a door.
abbrev pub door_word : Door → List ℕ
door_word Control = codes "control"
door_word Http = codes "http"
door_word Nntp = codes "nntp"
door_word Pop3 = codes "pop3"
door_word Imap = codes "imap"
door_word Lmtp = codes "lmtp"

-- The words of a line after its moment.
abbrev pub words_of : What → List ℕ
words_of (Opened conn door) = codes "o " ++ (decimal conn ++ 32 ∷ door_word door)
words_of (Bytes conn len) = codes "b " ++ (decimal conn ++ 32 ∷ decimal len)
words_of (Ended conn) = codes "e " ++ decimal conn
words_of Quiet = codes "q"
words_of Stop = codes "s"

-- The line of an event, without its line feed: the moment, a space, and the words.
abbrev pub line_of : Event → List ℕ
line_of event = decimal event.moment ++ 32 ∷ words_of event.what

-- The bytes after the line of an event: its piece and a line feed, or nothing.
abbrev pub after_line : What → List ℕ → List ℕ
after_line (Opened conn door) piece = []
after_line (Bytes conn len) piece = piece ++ 10 ∷ []
after_line (Ended conn) piece = []
after_line Quiet piece = []
after_line Stop piece = []

-- The form of an event and its piece in a script.
abbrev pub spelled : Event → List ℕ → List ℕ
spelled event piece = line_of event ++ 10 ∷ after_line event.what piece
