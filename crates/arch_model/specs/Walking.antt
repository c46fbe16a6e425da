-- What is given of entries that are walked through, one after another.
use Rattle.std.specs.Prelude.{◌≡◌, ◌≢◌, ◌≤◌, ℕ, List, ◌++◌, slice_get, Some, Result, Ok, Err}
use Rattle.arch_base.specs.Ids.{form_of}
use Rattle.git_objects.specs.Objects.{blob_id_of}
use Rattle.arch_model.specs.Archives.{Entry, Archive}
use Rattle.arch_model.specs.declared.line.EntryLine.{EntryLine}
use Rattle.arch_model.specs.declared.text_refusal.TextRefusal.{TextRefusal}
use Rattle.arch_model.specs.declared.text_refusal.TextRefusal.TheVariants as refusal

-- The result of reading the text of an entry with this line: a text is appended that has the blob id
-- of the line, in the form of that id; or bytes with another id were found. No refusal changes the
-- bytes.
abbrev pub GivesLine : EntryLine → List ℕ → List ℕ → Result Unit TextRefusal → Type 0
GivesLine line old new (Ok _) = (text : List ℕ) × (blob_id_of (form_of line.blob) text ≡ line.blob)
    × (new ≡ old ++ text)
GivesLine line old new (Err (refusal.Damaged named found)) = (new ≡ old) × (named ≡ line.blob)
    × (found ≢ named)
GivesLine line old new (Err refusal.DiskFault) = new ≡ old
GivesLine line old new (Err refusal.NoMemory) = new ≡ old

-- The text of the entry at an index is this one.
abbrev pub HasTextAt : List Entry → ℕ → List ℕ → Type 0
HasTextAt entries index text = (e : Entry) × (slice_get entries index ≡ Some e) × (e.text ≡ text)

-- The result of reading the text of the entry at an index of an archive: it is appended, and no
-- damage is found.
abbrev pub GivesTextAt : List Entry → ℕ → List ℕ → List ℕ → Result Unit TextRefusal → Type 0
GivesTextAt entries index old new (Ok _) = (text : List ℕ) × HasTextAt entries index text
    × (new ≡ old ++ text)
GivesTextAt entries index old new (Err (refusal.Damaged named found)) = ⊥
GivesTextAt entries index old new (Err refusal.DiskFault) = Unit {0}
GivesTextAt entries index old new (Err refusal.NoMemory) = Unit {0}

-- A call that only reads: the states are alike, the archive and the lines stay, so do texts that are
-- in their places, and the count of faults didn't fall.
pub record WalksOn {W : Type 0} (holds : W → Archive → Type 0) (sound : W → Type 0)
    (lines : W → List EntryLine) (alike : W → W → Type 0) (faults : W → ℕ) (old new : W)
    : Type 0 where
  pub same : alike old new
  pub kept : (a : Archive) → holds old a → holds new a
  pub sounds : sound old → sound new
  pub lines_are : lines new ≡ lines old
  pub later : faults old ≤ faults new
