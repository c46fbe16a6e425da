-- What a store tells of its entries, and the results of reading a text.
use Rattle.std.specs.Prelude.{◌≡◌, ◌≢◌, ◌<◌, ℕ, Bool, true, false, List, ◌++◌, length, slice_get, get_or, Option, Some, None, Result, Ok, Err}
use Rattle.arch_base.specs.Ids.{form_of}
use Rattle.arch_base.specs.declared.ids.ObjectId.{ObjectId}
use Rattle.arch_base.specs.declared.ids.Form.{Form}
use Rattle.disk_model.specs.declared.name.FileName.{FileName}
use Rattle.disk_model.specs.Disk.{Content, bytes_of}
use Rattle.git_objects.specs.Objects.{blob_id_of}
use Rattle.arch_model.specs.Archives.{Archive, Entry}
use Rattle.arch_model.specs.declared.line.EntryLine.{EntryLine}
use Rattle.arch_model.specs.declared.text_refusal.TextRefusal.{TextRefusal}
use Rattle.arch_model.specs.declared.text_refusal.TextRefusal.TheVariants.{Damaged}
use Rattle.root_slots.specs.declared.root.Root.{Root}
use Rattle.root_slots.specs.Valid.{no_place}
use Rattle.store_finding.specs.declared.entries.StoredEntry.{StoredEntry}
use Rattle.store_finding.specs.Files.{epoch_file_of}
use Rattle.store_finding.specs.Kept.{StoreState}
use Rattle.store_finding.specs.Reading.{StandsAt, HasText}

-- An entry without its text.
abbrev pub line_of : StoredEntry → EntryLine
line_of s = record {
  kind = s.seen.kind;
  number = s.number;
  epoch = s.epoch;
  secs = s.seen.moment;
  blob = s.seen.blob;
  size = s.seen.size;
  commit = s.seen.commit;
}

-- The same for an entry that may be missing.
abbrev pub line_if : Option StoredEntry → Option EntryLine
line_if None = None
line_if (Some s) = Some (line_of s)

-- The file of an entry, and the entry's offset there.
abbrev pub place_if : Root → Option StoredEntry → Option (FileName × ℕ)
place_if root None = None
place_if root (Some s) = Some (epoch_file_of root s.epoch, s.seen.at)

-- A text has the size and the blob id of an entry's.
pub record IsTextOf (s : StoredEntry) (text : List ℕ) : Type 0 where
  pub size : length text ≡ s.seen.size
  pub blob : blob_id_of (form_of s.seen.blob) text ≡ s.seen.blob

-- The blob id in a form of some bytes of this length.
abbrev pub IsIdOfSize : Form → ℕ → ObjectId → Type 0
IsIdOfSize form size id = (text : List ℕ) × (length text ≡ size) × (id ≡ blob_id_of form text)

-- The results of reading the text of an entry: a text of the entry's size and blob id is appended.
-- If bytes with another id were found, both ids are told: the entry's blob id is the one that is
-- named, and the other one is that of bytes of the entry's size, in the same form. No error changes the
-- bytes.
abbrev pub GivesText : StoredEntry → List ℕ → List ℕ → Result Unit TextRefusal → Type 0
GivesText s old new (Ok _) = (text : List ℕ) × IsTextOf s text × (new ≡ old ++ text)
GivesText s old new (Err (Damaged named found)) = (new ≡ old) × (named ≡ s.seen.blob)
    × (found ≢ named) × IsIdOfSize (form_of s.seen.blob) s.seen.size found
GivesText s old new (Err _) = new ≡ old

-- What is read and what is found are the bytes at the offset of an entry's text, in the file of its
-- epoch.
abbrev pub FindsText : Root → StoredEntry → List ℕ → List ℕ → Result Unit TextRefusal → Content
    → Type 0
FindsText root s old new (Ok _) k = (text : List ℕ)
    × StandsAt (bytes_of (k (epoch_file_of root s.epoch)).seen) s.seen.text_at s.seen.size text
    × (new ≡ old ++ text)
FindsText root s old new (Err (Damaged named found)) k = (text : List ℕ)
    × StandsAt (bytes_of (k (epoch_file_of root s.epoch)).seen) s.seen.text_at s.seen.size text
    × (found ≡ blob_id_of (form_of s.seen.blob) text)
FindsText root s old new (Err _) k = Unit {0}

-- The text of an entry that may be missing.
abbrev pub text_if : Option Entry → Option (List ℕ)
text_if None = None
text_if (Some e) = Some e.text

-- The results of reading on the disk of an archive: the text of the entry at an index, and no
-- damage.
abbrev pub GivesTextOf : Archive → ℕ → List ℕ → List ℕ → Result Unit TextRefusal → Type 0
GivesTextOf a i old new (Ok _) = (text : List ℕ) × (text_if (slice_get a.entries i) ≡ Some text)
    × (new ≡ old ++ text)
GivesTextOf a i old new (Err (Damaged named found)) = ⊥
GivesTextOf a i old new (Err _) = Unit {0}

-- An error that isn't damage.
abbrev pub IsQuiet : TextRefusal → Type 0
IsQuiet (Damaged named found) = ⊥
IsQuiet _ = Unit {0}

-- A result that isn't damage.
abbrev pub AnswersQuietly : {T : Type 0} → Result T TextRefusal → Type 0
AnswersQuietly (Ok made) = Unit {0}
AnswersQuietly (Err e) = IsQuiet e

-- The results of reading an epoch by what the root names: that many bytes are appended, or the root
-- names none.
abbrev pub IsEpochFound : Root → ℕ → List ℕ → List ℕ → Result Bool TextRefusal → Type 0
IsEpochFound root e old new (Ok true) = (bytes : List ℕ) × (length bytes
    ≡ (get_or root.epochs e no_place).length) × (0 < length bytes) × (new ≡ old ++ bytes)
IsEpochFound root e old new (Ok false) = (get_or root.epochs e no_place).length ≡ 0
IsEpochFound root e old new (Err refused) = Unit {0}

-- The bytes that are read are those at the front of the epoch's file.
abbrev pub FindsEpoch : Root → ℕ → List ℕ → List ℕ → Result Bool TextRefusal → Content → Type 0
FindsEpoch root e old new (Ok true) k = (bytes : List ℕ)
    × StandsAt (bytes_of (k (epoch_file_of root e)).seen) 0
    (get_or root.epochs e no_place).length bytes × (new ≡ old ++ bytes)
FindsEpoch root e old new _ k = Unit {0}

-- The texts of all entries that are kept are in their places.
abbrev pub HasTexts : StoreState → Content → Type 0
HasTexts v k = (i : ℕ) (s : StoredEntry) → slice_get v.entries i ≡ Some s → HasText v.root s k
