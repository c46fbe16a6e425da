-- A reader's request for the texts of some numbers, as a streamed reply that may stop short.
use Rattle.std.specs.Prelude.{◌≡◌, ◌⊎◌, ◌+◌, ◌≤◌, ℕ, zero, suc, Bool, true, false, List, [], ◌++◌, codes, Option, Some, None, Result, Ok, Err}
use Rattle.arch_base.specs.Counts.{Rose}
use Rattle.edge_io.specs.Phrases.{Says}
use Rattle.edge_io.specs.declared.sink.SinkFault.{SinkFault}
use Rattle.line_door.specs.Acts.{ConnectionState, Said, Departure}
use Rattle.line_door.specs.Making.{says, streams, in_ways}
use Rattle.arch_model.specs.Archives.{Entry, Archive, live, text_of}
use Rattle.answer_lines.specs.Lines.{whole_line, memory_word, disk_word}
use Rattle.door_tests.specs.declared.shelf_client.Part.{Part}
use Rattle.door_tests.specs.declared.shelf_client.Part.TheVariants as part

-- The line of a text, or nothing.
abbrev pub text_line : Option (List ℕ) → List ℕ
text_line None = []
text_line (Some text) = whole_line text

-- The texts of so many numbers from the first one on.
abbrev pub texts_from : List Entry → ℕ → ℕ → List ℕ
texts_from entries low zero = []
texts_from entries low (suc count) =
    texts_from entries low count ++ text_line (text_of entries (low + count))

-- What is said: the texts and an end, as a streamed reply; or why no text was read.
abbrev pub texts_said : Archive → ℕ → ℕ → List ℕ → Departure → Said (List ℕ) Archive
texts_said a low count h =
    in_ways (streams a h (texts_from (live a.entries) low count ++ whole_line (codes "end")))
    (says a h memory_word) (says a h disk_word)

-- Nothing was said.
pub record SaysNothing (i j : ConnectionState) : Type 0 where
  pub out : j.out ≡ i.out
  pub lost : j.lost ≡ i.lost
  pub later : i.disk ≤ j.disk

-- The line of a text was said, or lost. The disk didn't fail.
pub record SaysText (text : Option (List ℕ)) (i : ConnectionState) (sent : Result Unit SinkFault)
    (j : ConnectionState) : Type 0 where
  pub found : List ℕ
  pub is : text ≡ Some found
  pub words : Says (whole_line found) i.out i.lost j.out j.lost sent
  pub kept : j.disk ≡ i.disk

-- It was said why a text wasn't read.
pub record TellsUnread (i : ConnectionState) (sent : Result Unit SinkFault)
    (j : ConnectionState) : Type 0 where
  pub words : (Rose i.disk j.disk × Says disk_word i.out i.lost j.out j.lost sent)
      ⊎ ((j.disk ≡ i.disk) × Says memory_word i.out i.lost j.out j.lost sent)
  pub later : i.disk ≤ j.disk

-- A text wasn't read, after another one was said: the disk failed, or memory ran out.
pub record StopsTelling (begun : Bool) (text : Option (List ℕ)) (i j : ConnectionState) : Type 0 where
  pub begun_is : begun ≡ true
  pub found : List ℕ
  pub is : text ≡ Some found
  pub nothing : SaysNothing i j
  pub why : Rose i.disk j.disk ⊎ (j.disk ≡ i.disk)

-- What became of one number.
abbrev pub TellsPart : Bool → Option (List ℕ) → ConnectionState → Part → ConnectionState → Type 0
TellsPart begun text i part.Absent j = (text ≡ None) × SaysNothing i j × (j.disk ≡ i.disk)
TellsPart begun text i part.Given j = SaysText text i (Ok tt) j
TellsPart begun text i (part.Unread sent) j = (begun ≡ false) × TellsUnread i sent j
TellsPart begun text i part.Short j = StopsTelling begun text i j
TellsPart begun text i part.Lost j = (fault : SinkFault) × SaysText text i (Err fault) j
