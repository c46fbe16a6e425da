-- What a shelf gives of its archive, and what a call that only reads leaves.
use Rattle.std.specs.Prelude.{◌≡◌, ◌≢◌, ◌+◌, ◌<◌, ◌≤◌, ℕ, Bool, true, false, ◌&&◌, nat_le, List, [], ◌∷◌, ◌++◌, length, slice_get, Option, Some, None, is_some, Result, Ok, Err, if◌then◌else◌}
use Rattle.std.specs.List.{filter}
use Rattle.arch_base.specs.Counts.{Rose}
use Rattle.arch_base.specs.Ids.{id_eq}
use Rattle.arch_base.specs.declared.ids.Form.{Form}
use Rattle.arch_base.specs.declared.ids.ObjectId.{ObjectId}
use Rattle.git_objects.specs.Objects.{blob_id_of}
use Rattle.mail_commits.specs.Entries.{commit_id}
use Rattle.arch_model.specs.Archives.{Entry, Archive, text_of, in_epoch}
use Rattle.arch_model.specs.Epochs.{last_commit}
use Rattle.arch_model.specs.declared.line.EntryLine.{EntryLine}
use Rattle.arch_model.specs.declared.text_refusal.TextRefusal.{TextRefusal}
use Rattle.arch_model.specs.declared.text_refusal.TextRefusal.TheVariants as refusal

-- The greatest number among live entries that is at most `n`, or none.
abbrev pub IsGreatestLive : List Entry → ℕ → Option ℕ → Type 0
IsGreatestLive entries n None = (m : ℕ) → m ≤ n → text_of entries m ≡ None
IsGreatestLive entries n (Some found) = (found ≤ n) × (is_some (text_of entries found) ≡ true)
    × ((m : ℕ) → found < m → m ≤ n → text_of entries m ≡ None)

-- The number of an entry lies between these two, or is one of them.
abbrev pub is_between : ℕ → ℕ → Entry → Bool
is_between low high e = nat_le low e.number && nat_le e.number high

-- How many live entries have a number from `low` to `high`.
abbrev pub live_between : List Entry → ℕ → ℕ → ℕ
live_between entries low high = length (filter (is_between low high) entries)

-- An entry after others, without its text, with ids of a form. The parent of its commit is the last
-- commit of its epoch.
abbrev pub line_after : Form → List Entry → Entry → EntryLine
line_after form before e = record {
  kind = e.kind;
  number = e.number;
  epoch = e.epoch;
  secs = e.moment;
  blob = blob_id_of form e.text;
  size = length e.text;
  commit = commit_id form e.kind e.text e.moment (last_commit form None (in_epoch before e.epoch));
}

-- Entries after others, without their texts.
abbrev pub lines_after : Form → List Entry → List Entry → List EntryLine
lines_after form before [] = []
lines_after form before (e ∷ es) = line_after form before e ∷ lines_after form (before ++ e ∷ []) es

-- The entry at an index, from 0, without its text.
abbrev pub line_at : Form → List Entry → ℕ → Option EntryLine
line_at form entries index = slice_get (lines_after form [] entries) index

-- The text of the first entry with a blob id of a form, if there is one. All entries of a valid
-- archive that have the blob id have this text.
abbrev pub blob_text : Form → List Entry → ObjectId → Option (List ℕ)
blob_text form [] blob = None
blob_text form (e ∷ es) blob =
    if id_eq blob (blob_id_of form e.text) then Some e.text else blob_text form es blob

-- The result of reading a text by its blob id of a form: the text is appended, or no entry has the
-- blob id. No damage is found.
abbrev pub GivesBlobIn : Form → List Entry → ObjectId → List ℕ → List ℕ → Result Bool TextRefusal
    → Type 0
GivesBlobIn form entries blob old new (Ok true) = (text : List ℕ)
    × (blob_text form entries blob ≡ Some text) × (new ≡ old ++ text)
GivesBlobIn form entries blob old new (Ok false) = blob_text form entries blob ≡ None
GivesBlobIn form entries blob old new (Err (refusal.Damaged named found)) = ⊥
GivesBlobIn form entries blob old new (Err refusal.DiskFault) = Unit {0}
GivesBlobIn form entries blob old new (Err refusal.NoMemory) = Unit {0}

-- Bytes were only appended to.
abbrev pub AppendsTo : List ℕ → List ℕ → Type 0
AppendsTo old new = (more : List ℕ) × (new ≡ old ++ more)

-- A call that only reads: the states are alike, the archive stays, the shelf is ready, and the count
-- of faults didn't fall.
pub record ShelfStays {S : Type 0} (holds : S → Archive → Type 0) (ready : S → Bool)
    (alike : S → S → Type 0) (faults : S → ℕ) (old new : S) : Type 0 where
  pub same : alike old new
  pub kept : (a : Archive) → holds old a → holds new a
  pub at_hand : ready new ≡ true
  pub later : faults old ≤ faults new

-- Why a call didn't read: the disk failed, and its count rose; or what was read has another id than
-- is named, or memory ran out, and the count stayed.
abbrev pub ReadingWhy : ℕ → ℕ → TextRefusal → Type 0
ReadingWhy before now refusal.DiskFault = Rose before now
ReadingWhy before now (refusal.Damaged named found) = (found ≢ named) × (now ≡ before)
ReadingWhy before now refusal.NoMemory = now ≡ before

-- A refusal to read has a cause. A call that read met no fault.
abbrev pub ReadCause : {T : Type 0} → ℕ → ℕ → Result T TextRefusal → Type 0
ReadCause before now (Ok x) = now ≡ before
ReadCause before now (Err why) = ReadingWhy before now why

-- The refusal is not that a text is damaged.
abbrev pub IsUndamaged : TextRefusal → Type 0
IsUndamaged refusal.DiskFault = Unit {0}
IsUndamaged (refusal.Damaged named found) = ⊥
IsUndamaged refusal.NoMemory = Unit {0}

-- A call reads at most once.
pub record ReadsOnce (before now : ℕ) : Type 0 where
  pub later : before ≤ now
  pub most : now ≤ before + 1

-- A call reads at most so many times.
pub record ReadsUpTo (most before now : ℕ) : Type 0 where
  pub later : before ≤ now
  pub bound : now ≤ before + most

-- The reads of a call, and as many more as are still to follow, are at most so many.
pub record ReadsAhead (most ahead before now : ℕ) : Type 0 where
  pub later : before ≤ now
  pub bound : now + ahead ≤ before + most

-- Whichever archive a shelf holds, at most so many texts were read.
abbrev pub ReadsIn : {S : Type 0} → (S → Archive → Type 0) → (Archive → ℕ) → S → ℕ → ℕ → Type 0
ReadsIn holds most shelf before now = (a : Archive) → holds shelf a → ReadsUpTo (most a) before now
