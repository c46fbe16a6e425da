-- What the doors of mail protocols say where a text isn't read, or the archive isn't opened: the code
-- of the door, and why.
use Rattle.std.specs.Prelude.{◌≡◌, ◌≤◌, ◌⊎◌, ℕ, Bool, true, false, List, ◌∷◌, ◌++◌, codes, decimal, Result}
use Rattle.hex.specs.Hex.{encode_lower}
use Rattle.arch_base.specs.Counts.{Rose}
use Rattle.arch_base.specs.Ids.{id_bytes}
use Rattle.arch_model.specs.Delivery.{file_words}
use Rattle.arch_model.specs.declared.opening.OpenRefusal.{OpenRefusal}
use Rattle.arch_model.specs.declared.opening.OpenRefusal.TheVariants as opening
use Rattle.arch_model.specs.declared.text_refusal.TextRefusal.{TextRefusal}
use Rattle.arch_model.specs.declared.text_refusal.TextRefusal.TheVariants as reading
use Rattle.edge_io.specs.Phrases.{Says}
use Rattle.edge_io.specs.declared.sink.SinkFault.{SinkFault}
use Rattle.line_door.specs.Acts.{ConnectionState}
use Rattle.keep_course.specs.declared.refusal.Refusal.{Refusal}
use Rattle.keep_course.specs.declared.refusal.Refusal.TheVariants as refused
use Rattle.wire_replies.specs.Blocks.{crlf_line}

-- The line for out of memory, after a door's code.
abbrev pub memory_line : List ℕ → List ℕ
memory_line code = code ++ crlf_line (codes "out of memory")

-- The line for a fault of the disk.
abbrev pub disk_line : List ℕ → List ℕ
disk_line code = code ++ crlf_line (codes "disk fault")

-- Why a text was not read. If it is damaged, its id is said, and the id of what was found.
abbrev pub unread_line : List ℕ → TextRefusal → List ℕ
unread_line code reading.DiskFault = disk_line code
unread_line code (reading.Damaged named found) = code ++ (codes "damaged "
    ++ (encode_lower (id_bytes named) ++ (32 ∷ crlf_line (encode_lower (id_bytes found)))))
unread_line code reading.NoMemory = memory_line code

-- Why the archive was not opened. If there is none, its root is damaged.
abbrev pub unopened_line : List ℕ → OpenRefusal → List ℕ
unopened_line code opening.NoArchive = code ++ crlf_line (codes "damaged root 0")
unopened_line code (opening.Damaged file at) = code ++ (codes "damaged "
    ++ (file_words file ++ (32 ∷ crlf_line (decimal at))))
unopened_line code opening.DiskFault = disk_line code
unopened_line code opening.NoMemory = memory_line code

-- It was said why something wasn't made, by what a door says of a refusal: its text was not read, if it
-- is told from one, since the disk failed; or memory ran out.
abbrev pub SaysWhy : Bool → (TextRefusal → List ℕ) → ConnectionState → Result Unit SinkFault
    → ConnectionState
    → Type 0
SaysWhy true line i sent j = (Rose i.disk j.disk × (i.disk ≤ j.disk)
    × Says (line reading.DiskFault) i.out i.lost j.out j.lost sent)
    ⊎ ((j.disk ≡ i.disk) × Says (line reading.NoMemory) i.out i.lost j.out j.lost sent)
SaysWhy false line i sent j =
    (j.disk ≡ i.disk) × Says (line reading.NoMemory) i.out i.lost j.out j.lost sent

-- It was said after a door's code why a text was not read.
abbrev pub SaysUnread : List ℕ → ConnectionState → Result Unit SinkFault → ConnectionState → Type 0
SaysUnread code = SaysWhy true (unread_line code)

-- Why a connection is refused: the door's line for a server that is full, or why after its code.
abbrev pub refusal_words : List ℕ → List ℕ → Refusal → List ℕ
refusal_words busy code refused.Busy = busy
refusal_words busy code refused.NoMemory = memory_line code
refusal_words busy code (refused.Unopened why) = unopened_line code why
