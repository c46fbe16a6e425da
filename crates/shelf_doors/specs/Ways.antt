-- What a door of lines over a shelf says to a line in each way. No reply changes the archive.
use Rattle.std.specs.Prelude.{ℕ, List, Bool, true, false, Option, Some, None, if◌then◌else◌}
use Rattle.line_door.specs.Acts.{Departure, Plain, Memory, Disk, Newer}
use Rattle.line_door.specs.Readers.{LineReply}
use Rattle.shelf_doors.specs.Refusals.{memory_line, disk_line}

-- A reply: its words, whether they are streamed, and the state after it (None if the session is
-- closed).
pub record ShelfReply (S : Type 0) : Type 0 where
  pub words : List ℕ
  pub streamed : Bool
  pub state : Option S

-- Words, after which the session is in a state.
abbrev pub replies : {S : Type 0} → S → List ℕ → ShelfReply S
replies s words = record { words = words; streamed = false; state = Some s }

-- The same as a streamed reply, which may stop early.
abbrev pub streams : {S : Type 0} → S → List ℕ → ShelfReply S
streams s words = record { words = words; streamed = true; state = Some s }

-- Words, after which the session is closed.
abbrev pub ends : {S : Type 0} → List ℕ → ShelfReply S
ends words = record { words = words; streamed = false; state = None }

-- The reply, over what requests read, which stays.
abbrev pub over : {S A : Type 0} → A → ShelfReply S → LineReply S A
over a r = record { words = r.words; streamed = r.streamed; state = r.state; after = a }

-- The reply by the rules `r`, in each way. If it wants memory, that may run out; and if it reads a text,
-- the disk may fail. Either is said after the door's code, and leaves the state.
abbrev pub in_each_way : {S A : Type 0} → List ℕ → A → S → Bool → Bool → ShelfReply S → Departure
    → LineReply S A
in_each_way code a s wants reads r Plain = over a r
in_each_way code a s wants reads r Memory =
    over a (if wants then replies s (memory_line code) else r)
in_each_way code a s wants reads r Disk =
    over a (if reads then replies s (disk_line code) else r)
in_each_way code a s wants reads r Newer = over a r
