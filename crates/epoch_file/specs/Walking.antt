-- The results of a walk over an epoch's file.
use Rattle.std.specs.Prelude.{◌≡◌, ◌≢◌, ◌⊎◌, ◌<◌, ◌+◌, ℕ, List, [], ◌∷◌, ◌++◌, length, take, Option, Some, None, Result, Ok, Err, unwrap_or}
use Rattle.std.specs.Fmt.{decimal}
use Rattle.arch_base.specs.declared.ids.Form.{Form}
use Rattle.arch_base.specs.declared.ids.ObjectId.{ObjectId}
use Rattle.disk_model.specs.declared.refusal.WalkRefusal.{WalkRefusal}
use Rattle.disk_model.specs.declared.refusal.WalkRefusal.TheVariants.{Damaged}
use Rattle.git_objects.specs.Objects.{blob_id_of}
use Rattle.mail_reader.specs.Ids.{own_id}
use Rattle.mail_reader.specs.Content.{content_id_of}
use Rattle.mail_commits.specs.Entries.{magic}
use Rattle.epoch_file.specs.declared.entry.Seen.{Seen}
use Rattle.epoch_file.specs.Entries.{EpochEntry, IsEpochEntry, AreEpochEntries, bytes_after, commit_after, chain, last_of, epoch_of}

-- The number of bytes before a text in its blob: `blob`, a space, the size in digits and NUL.
abbrev pub blob_front : List ℕ → ℕ
blob_front text = 6 + length (decimal (length text))

-- What is recorded of an entry of a form at an offset, after a parent.
abbrev pub seen_at : Form → ℕ → Option ObjectId → EpochEntry → Seen
seen_at form offset parent e = record {
  kind = e.kind;
  at = offset;
  text_at = offset + blob_front e.text;
  size = length e.text;
  blob = blob_id_of form e.text;
  commit = commit_after form parent e;
  moment = e.moment;
  id = unwrap_or (own_id e.text) [];
  content = content_id_of e.text;
}

-- What is recorded of entries from an offset on, one after the other.
abbrev pub seen_from : Form → ℕ → Option ObjectId → List EpochEntry → List Seen
seen_from form offset parent [] = []
seen_from form offset parent (e ∷ es) =
    seen_at form offset parent e
    ∷ seen_from form (offset + length (bytes_after form parent e)) (Some (commit_after form parent e)) es

-- The first n bytes of a file are there, and are an epoch of a form, of at least one entry, with these
-- records.
pub record IsEpoch (form : Form) (n : ℕ) (bytes : List ℕ) (seen : List Seen) : Type 0 where
  pub entries : List EpochEntry
  pub some : 0 < length entries
  pub valid : AreEpochEntries entries
  pub spelled : take n bytes ≡ epoch_of form entries
  pub whole : n ≡ length (epoch_of form entries)
  pub is : seen ≡ seen_from form 8 None entries

-- The bytes start with no entry of a form after this parent.
abbrev pub LacksEntry : Form → Option ObjectId → List ℕ → Type 0
LacksEntry form parent bytes = (e : EpochEntry) (rest : List ℕ) → IsEpochEntry e
    → bytes ≢ bytes_after form parent e ++ rest

-- The first n bytes of a file start with the magic of a form and these entries, and there is no entry
-- at the offset after them, although there is none yet or the bytes go on.
pub record EndsEarly (form : Form) (n : ℕ) (bytes : List ℕ) (offset : ℕ) : Type 0 where
  pub entries : List EpochEntry
  pub rest : List ℕ
  pub valid : AreEpochEntries entries
  pub spelled : take n bytes ≡ epoch_of form entries ++ rest
  pub offset_is : offset ≡ 8 + length (chain form None entries)
  pub wanted : (entries ≡ []) ⊎ (offset < n)
  pub lacks : LacksEntry form (last_of form None entries) rest

-- The first n bytes of a file don't start with the magic of a form.
abbrev pub LacksMagic : Form → ℕ → List ℕ → Type 0
LacksMagic form n bytes = take 8 (take n bytes) ≢ magic form

-- The offset from which on the first n bytes of a file are no epoch of a form: 0, or that of the first
-- entry that isn't there.
abbrev pub IsDamagedEpochAt : Form → ℕ → List ℕ → ℕ → Type 0
IsDamagedEpochAt form n bytes offset =
    ((offset ≡ 0) × LacksMagic form n bytes) ⊎ EndsEarly form n bytes offset

-- The results of a walk over the first n bytes of a file, as an epoch of a form.
abbrev pub WalksEpoch : Form → ℕ → List ℕ → Result (List Seen) WalkRefusal → Type 0
WalksEpoch form n bytes (Ok seen) = IsEpoch form n bytes seen
WalksEpoch form n bytes (Err (Damaged offset)) = IsDamagedEpochAt form n bytes offset
WalksEpoch form n bytes (Err _) = Unit {0}
