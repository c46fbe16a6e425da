-- The entries of an epoch's file and their bytes: the magic of the form of its ids, then for each
-- entry a blob, a tree of one file that names the blob, and a commit that names the tree (git, "Git
-- Objects").
use Rattle.std.specs.Prelude.{◌≡◌, ◌<◌, ◌≤◌, ◌^◌, ℕ, List, [], ◌∷◌, ◌++◌, length, Option, Some, None}
use Rattle.arch_base.specs.declared.ids.Form.{Form}
use Rattle.arch_base.specs.declared.ids.ObjectId.{ObjectId}
use Rattle.git_objects.specs.declared.entry_kind.EntryKind.{EntryKind}
use Rattle.mail_reader.specs.StorageTexts.{IsStorageText}
use Rattle.mail_commits.specs.Entries.{commit_id, entry_bytes, magic}
use Rattle.arch_base.specs.Moments.{last_moment}

-- An entry: a message or a deletion, the text of its file, and the time of its commit in seconds
-- since 1970.
pub record EpochEntry : Type 0 where
  pub kind : EntryKind
  pub text : List ℕ
  pub moment : ℕ

-- The entries that a file may have: a message or a deletion of a storage text, at a moment up to the
-- last one.
pub record IsEpochEntry (e : EpochEntry) : Type 0 where
  pub text : IsStorageText e.text
  pub moment : e.moment ≤ last_moment

-- A file may have each of these entries.
abbrev pub AreEpochEntries : List EpochEntry → Type 0
AreEpochEntries [] = Unit {0}
AreEpochEntries (e ∷ es) = IsEpochEntry e × AreEpochEntries es

-- The bytes of an entry in a form, after a parent.
abbrev pub bytes_after : Form → Option ObjectId → EpochEntry → List ℕ
bytes_after form parent e = entry_bytes form e.kind e.text e.moment parent

-- The id of its commit.
abbrev pub commit_after : Form → Option ObjectId → EpochEntry → ObjectId
commit_after form parent e = commit_id form e.kind e.text e.moment parent

-- The bytes of entries, where each commit's parent is the commit before it.
abbrev pub chain : Form → Option ObjectId → List EpochEntry → List ℕ
chain form parent [] = []
chain form parent (e ∷ es) =
    bytes_after form parent e ++ chain form (Some (commit_after form parent e)) es

-- The id of the last commit of entries, or the parent if there are none.
abbrev pub last_of : Form → Option ObjectId → List EpochEntry → Option ObjectId
last_of form parent [] = parent
last_of form parent (e ∷ es) = last_of form (Some (commit_after form parent e)) es

-- The bytes of an epoch of a form with these entries; the first commit has no parent.
abbrev pub epoch_of : Form → List EpochEntry → List ℕ
epoch_of form es = magic form ++ chain form None es

-- Two lists of entries whose epochs of a form have the same bytes, fewer than 2^64, are equal.
abbrev pub EpochsDiffer : Type 0
EpochsDiffer =
    (form : Form) (es fs : List EpochEntry) → AreEpochEntries es → AreEpochEntries fs
    → length (epoch_of form es) < 2 ^ 64
    → epoch_of form es ≡ epoch_of form fs → es ≡ fs

-- Bytes determine the first entry of a form that they start with, and the rest after it.
abbrev pub EntriesDiffer : Type 0
EntriesDiffer =
    (form : Form) (parent : Option ObjectId) (e f : EpochEntry) (x y : List ℕ)
    → IsEpochEntry e → IsEpochEntry f → length (bytes_after form parent e ++ x) < 2 ^ 64
    → bytes_after form parent e ++ x ≡ bytes_after form parent f ++ y → (e ≡ f) × (x ≡ y)
