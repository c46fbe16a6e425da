-- Private: the results of reading an entry at the front of bytes.
use Rattle.std.specs.Prelude.{◌≡◌, ◌≢◌, ℕ, ◌+◌, ◌≤◌, List, ◌++◌, length, take, Option, Some, None, Result, Ok, Err, MatchOption, [], unwrap_or}
use Rattle.arch_base.specs.declared.ids.Form.{Form}
use Rattle.arch_base.specs.declared.ids.ObjectId.{ObjectId}
use Rattle.arch_base.specs.declared.sequence.NoMemory.{NoMemory}
use Rattle.git_objects.specs.declared.entry_kind.EntryKind.{EntryKind}
use Rattle.git_objects.specs.Commits.{commit_content, IsParent}
use Rattle.git_objects.specs.Objects.{blob_id_of, blob_spelling, id_of}
use Rattle.mail_reader.specs.Content.{content_id_of}
use Rattle.mail_reader.specs.Ids.{own_id}
use Rattle.mail_commits.specs.declared.commits.EntryIds.{EntryIds}
use Rattle.mail_commits.specs.Commits.{commit_of}
use Rattle.mail_commits.specs.Entries.{tree_of, commit_id, commit_text}
use Rattle.epoch_file.specs.declared.entry.Seen.{Seen}
use Rattle.epoch_file.specs.declared.reading.Parts.{Parts}
use Rattle.epoch_file.specs.Entries.{EpochEntry, IsEpochEntry, bytes_after}
use Rattle.epoch_file.specs.Walking.{blob_front, seen_at, LacksEntry}

-- Parts of bytes: their lengths are within the bytes, which start with the blob of the text.
pub record IsParted (bytes : List ℕ) (parts : Parts) : Type 0 where
  pub inside : parts.size ≤ length bytes
  pub front : parts.front ≤ parts.size
  pub blob_inside : parts.blob ≤ parts.size
  pub spelled : take parts.blob bytes ≡ blob_spelling parts.text.now

-- The parts of an entry of a form.
pub record HasParts (form : Form) (parent : Option ObjectId) (e : EpochEntry) (parts : Parts) : Type 0 where
  pub kind : parts.kind ≡ e.kind
  pub text : parts.text.now ≡ e.text
  pub front : parts.front ≡ blob_front e.text
  pub commit : parts.commit.now
      ≡ commit_content (commit_of e.text (id_of form (tree_of form e.kind e.text)) parent e.moment)
  pub size : parts.size ≡ length (bytes_after form parent e)

-- The parts of an entry are found whatever follows it.
abbrev pub PartsAgain : Form → List ℕ → Option Parts → Type 0
PartsAgain form bytes found =
    (parent : Option ObjectId) (e : EpochEntry) (rest : List ℕ) → IsEpochEntry e
    → bytes ≡ bytes_after form parent e ++ rest
    → MatchOption found ⊥ (HasParts form parent e)

-- The ids of an entry.
pub record AreIds (form : Form) (kind : EntryKind) (text : List ℕ) (moment : ℕ)
    (parent : Option ObjectId) (ids : EntryIds) : Type 0 where
  pub blob : ids.blob ≡ blob_id_of form text
  pub commit : ids.commit ≡ commit_id form kind text moment parent

-- The bytes are the tree and the commit of an entry with these ids, or they are others.
abbrev pub Respells : Form → List ℕ → EntryKind → List ℕ → ℕ → Option ObjectId
    → Result (Option EntryIds) NoMemory → Type 0
Respells form bytes kind text moment parent (Ok None) =
    bytes ≢ tree_of form kind text ++ commit_text form kind text moment parent
Respells form bytes kind text moment parent (Ok (Some ids)) =
    (bytes ≡ tree_of form kind text ++ commit_text form kind text moment parent)
    × AreIds form kind text moment parent ids
Respells form bytes kind text moment parent (Err e) = Unit {0}

-- An entry of a form that bytes start with: what is recorded of it at its offset, and its length.
pub record IsEntryRead (form : Form) (offset : ℕ) (parent : Option ObjectId) (bytes : List ℕ)
    (found : Seen × ℕ) : Type 0 where
  pub entry : EpochEntry
  pub valid : IsEpochEntry entry
  pub rest : List ℕ
  pub is : bytes ≡ bytes_after form parent entry ++ rest
  pub seen : found.0 ≡ seen_at form offset parent entry
  pub size : found.1 ≡ length (bytes_after form parent entry)

-- The results of reading: the entry that bytes start with, or none if they start with none after a
-- parent whose id is of the form.
abbrev pub ReadsEntry : Form → ℕ → Option ObjectId → List ℕ → Result (Option (Seen × ℕ)) NoMemory
    → Type 0
ReadsEntry form offset parent bytes (Ok None) = IsParent form parent → LacksEntry form parent bytes
ReadsEntry form offset parent bytes (Ok (Some found)) = IsEntryRead form offset parent bytes found
ReadsEntry form offset parent bytes (Err e) = Unit {0}

-- The same for entries with a property.
abbrev pub ReadsWhere : Form → (EpochEntry → Type 0) → ℕ → Option ObjectId → List ℕ
    → Result (Option (Seen × ℕ)) NoMemory → Type 0
ReadsWhere form P offset parent bytes (Ok None) =
    IsParent form parent → (e : EpochEntry) (rest : List ℕ) → IsEpochEntry e
    → bytes ≡ bytes_after form parent e ++ rest → P e → ⊥
ReadsWhere form P offset parent bytes (Ok (Some found)) = IsEntryRead form offset parent bytes found
ReadsWhere form P offset parent bytes (Err e) = Unit {0}

-- What is recorded of parts at an offset, with a moment and ids.
abbrev pub seen_by : ℕ → Parts → ℕ → EntryIds → Seen
seen_by offset parts moment ids = record {
  kind = parts.kind;
  at = offset;
  text_at = offset + parts.front;
  size = length parts.text.now;
  blob = ids.blob;
  commit = ids.commit;
  moment = moment;
  id = unwrap_or (own_id parts.text.now) [];
  content = content_id_of parts.text.now;
}
