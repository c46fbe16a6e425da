-- How an epoch's file is written anew without some of its entries.
use Rattle.std.specs.Prelude.{◌≡◌, ◌+◌, ◌≤◌, ℕ, Bool, true, ◌==◌, List, [], ◌∷◌, ◌++◌, length, slice_get, Option, Some, None, is_some, Result, Ok, Err, if◌then◌else◌}
use Rattle.std.specs.List.{list_any}
use Rattle.arch_base.specs.declared.ids.Form.{Form}
use Rattle.arch_base.specs.declared.ids.ObjectId.{ObjectId}
use Rattle.disk_model.specs.declared.name.FileName.{FileName}
use Rattle.disk_model.specs.declared.name.FileKind.TheVariants.{Epoch}
use Rattle.disk_model.specs.declared.refusal.WalkRefusal.{WalkRefusal}
use Rattle.disk_model.specs.declared.refusal.WalkRefusal.TheVariants.{DiskFault, NoMemory, Damaged}
use Rattle.disk_model.specs.Disk.{Content, Unchanged, WhereTold, bytes_of}
use Rattle.root_change.specs.declared.plan.Target.TheVariants.{Anew}
use Rattle.root_change.specs.declared.sources.Source.{Source}
use Rattle.root_change.specs.declared.sources.Source.TheVariants.{Bytes, Range}
use Rattle.root_change.specs.Rewriting.{Plan, IsPlan, IsPlanFrom, IsPlanWhole, plan_count, with_bytes, with_range, written_by}
use Rattle.root_change.specs.Copying.{file_range}
use Rattle.root_change.specs.Texts.{Texts}
use Rattle.arch_base.specs.Ids.{form_of}
use Rattle.git_objects.specs.Objects.{blob_id_of}
use Rattle.git_objects.specs.Trees.{tree_size}
use Rattle.mail_commits.specs.Entries.{commit_id, commit_text}
use Rattle.epoch_file.specs.declared.planning.NewCommit.{NewCommit}
use Rattle.epoch_file.specs.declared.entry.Seen.{Seen}
use Rattle.epoch_file.specs.Entries.{EpochEntry, IsEpochEntry, epoch_of, last_of}
use Rattle.epoch_file.specs.Lying.{EntryLiesIn, tree_end}
use Rattle.epoch_file.specs.Walking.{IsDamagedEpochAt, IsEpoch, seen_at}

-- What is planned of an epoch's file so far: the plan of the new file if an entry was left out, the
-- offset of the next entry in the new file, the last commit there, and the form of both files.
pub record Planned : Type 0 where
  pub file : FileName
  pub changed : Option Plan
  pub end_ : ℕ
  pub parent : Option ObjectId
  pub form : Form

-- The texts of files, as reads give them.
abbrev pub texts_in : Content → Texts
texts_in k name = bytes_of (k name).seen

-- A plan of the new file: it writes an epoch of a form of the entries that stay, and ends here.
pub record IsAnew (form : Form) (texts : Texts) (kept : List EpochEntry) (end_ : ℕ) (plan : Plan)
    : Type 0 where
  pub target : plan.target ≡ Anew
  pub whole : IsPlanWhole texts plan
  pub written : written_by texts plan ≡ epoch_of form kept
  pub ends : end_ ≡ length (epoch_of form kept)

-- The same, if an entry was left out. Otherwise all entries stay.
abbrev pub IsPlanOf : Form → Texts → List EpochEntry → List EpochEntry → ℕ → Option Plan → Type 0
IsPlanOf form texts es kept end_ None = kept ≡ es
IsPlanOf form texts es kept end_ (Some plan) = IsAnew form texts kept end_ plan

-- Of the entries of an epoch's file so far these stay, and so it is planned. The last commit is that of
-- the entries that stay.
pub record IsPlanned (texts : Texts) (es kept : List EpochEntry) (p : Planned) : Type 0 where
  pub plan : IsPlanOf p.form texts es kept p.end_ p.changed
  pub parent : p.parent ≡ last_of p.form None kept

-- A file has these entries of a form, and then this one.
pub record HasNext (form : Form) (texts : Texts) (file : FileName) (es : List EpochEntry)
    (e : EpochEntry) : Type 0 where
  pub valid : IsEpochEntry e
  pub rest : List ℕ
  pub is : texts file ≡ epoch_of form (es ++ e ∷ []) ++ rest

-- What is recorded of an entry of a form after others.
abbrev pub seen_after : Form → List EpochEntry → EpochEntry → Seen
seen_after form es e = seen_at form (length (epoch_of form es)) (last_of form None es) e

-- An entry stays, and what is recorded of it in the new file is given. Nothing is damaged.
abbrev pub EntryStays : Form → Texts → List EpochEntry → List EpochEntry → EpochEntry → Planned
    → Result Seen WalkRefusal → Type 0
EntryStays form texts es kept e new (Ok seen) = (seen ≡ seen_after form kept e)
    × IsPlanned texts (es ++ e ∷ []) (kept ++ e ∷ []) new
EntryStays form texts es kept e new (Err (Damaged at)) = ⊥
EntryStays form texts es kept e new (Err _) = Unit {0}

-- Where the entries of a file are planned so, and it has another one, that stays.
abbrev pub KeepsNext : Planned → Seen → Planned → Result Seen WalkRefusal → Content → Type 0
KeepsNext old seen new result k = (es kept : List EpochEntry) (e : EpochEntry)
    → IsPlanned (texts_in k) es kept old → HasNext old.form (texts_in k) old.file es e
    → seen ≡ seen_after old.form es e → EntryStays old.form (texts_in k) es kept e new result

-- Where the entries of a file are planned so, and it has another one, that is left out.
abbrev pub LeavesNext : Planned → Seen → Planned → Type 0
LeavesNext old seen new = (texts : Texts) (es kept : List EpochEntry) (e : EpochEntry)
    → IsPlanned texts es kept old → HasNext old.form texts old.file es e
    → seen ≡ seen_after old.form es e → IsPlanned texts (es ++ e ∷ []) kept new

-- The bytes of the file of an epoch of a form: none without an entry.
abbrev pub file_of : Form → List EpochEntry → List ℕ
file_of form [] = []
file_of form (e ∷ es) = epoch_of form (e ∷ es)

-- The plan of the whole file, or none if all entries stay. Without an entry it writes nothing.
abbrev pub IsFinished : Form → Texts → List EpochEntry → List EpochEntry → Option Plan → Type 0
IsFinished form texts es kept None = kept ≡ es
IsFinished form texts es kept (Some plan) = (plan.target ≡ Anew) × IsPlanWhole texts plan
    × (written_by texts plan ≡ file_of form kept)

-- The result is such a plan, whichever entries a file has and which of them stay, if they are planned so.
abbrev pub FinishesPlan : Planned → Option Plan → Type 0
FinishesPlan old result = (texts : Texts) (es kept : List EpochEntry) → IsPlanned texts es kept old
    → IsFinished old.form texts es kept result

-- A plan writes the epoch of a file anew, from bytes and ranges of that file.
pub record IsAnewOf (file : FileName) (plan : Plan) : Type 0 where
  pub kind : plan.kind ≡ Epoch
  pub number : plan.number ≡ file.number
  pub target : plan.target ≡ Anew
  pub valid : IsPlan plan
  pub from : IsPlanFrom file plan

-- The same, if there is a plan.
abbrev pub IsOfEpoch : FileName → Option Plan → Type 0
IsOfEpoch file None = Unit {0}
IsOfEpoch file (Some plan) = IsAnewOf file plan

-- A source that is a range ends up to an offset.
abbrev pub SourceEndsBy : ℕ → Source → Type 0
SourceEndsBy most (Bytes offset count) = Unit {0}
SourceEndsBy most (Range range) = range.offset + range.count ≤ most

-- Each range among the sources of a plan ends up to an offset.
abbrev pub EndUpTo : ℕ → Plan → Type 0
EndUpTo most plan = (i : ℕ) (source : Source) → slice_get plan.sources i ≡ Some source
    → SourceEndsBy most source

-- What holds of a plan, if there is one.
abbrev pub IfPlan : (Plan → Type 0) → Option Plan → Type 0
IfPlan P None = Unit {0}
IfPlan P (Some plan) = P plan

-- If an entry was left out, the plan takes ranges up to an offset, and the new file so far ends here.
abbrev pub PlannedBy : ℕ → ℕ → Option Plan → Type 0
PlannedBy most end_ None = Unit {0}
PlannedBy most end_ (Some plan) = EndUpTo most plan × (plan_count plan ≡ end_)

-- The same of what is planned of a file so far.
abbrev pub IsPlannedIn : ℕ → Planned → Type 0
IsPlannedIn most p = PlannedBy most p.end_ p.changed

-- How far the entries reach that stay, if those of the old file so far reach up to an offset: as far,
-- or up to the end of the new file if an entry was left out.
abbrev pub reach_by : ℕ → ℕ → Option Plan → ℕ
reach_by from end_ None = from
reach_by from end_ (Some plan) = end_

-- The same by what is planned of a file so far.
abbrev pub reach : ℕ → Planned → ℕ
reach from p = reach_by from p.end_ p.changed

-- An entry that lies in the first bytes of a file, after those before it, stays: after those that stay.
pub record KeepsIn (from most : ℕ) (old : Planned) (seen : Seen) (new : Planned) (made : Seen)
    : Type 0 where
  pub planned : IsPlannedIn most new
  pub lies : EntryLiesIn (reach from old) (reach (tree_end seen) new) made

-- Such an entry was left out: those that stay reach no further than they may after it.
pub record LeftOutIn (from most : ℕ) (old : Planned) (seen : Seen) (new : Planned) : Type 0 where
  pub planned : IsPlannedIn most new
  pub reach : reach from old ≤ reach (tree_end seen) new
  pub parent : new.parent ≡ old.parent

-- The number of bytes of a file after its plan, or as before without one.
abbrev pub count_by : ℕ → Option Plan → ℕ
count_by before None = before
count_by before (Some plan) = plan_count plan

-- The plan of the whole file takes ranges up to an offset, if there is one. If an entry stays, the new
-- file ends where the entries reach that stay.
pub record FinishesIn (most : ℕ) (old : Planned) (result : Option Plan) : Type 0 where
  pub ranges : IfPlan (EndUpTo most) result
  pub count : is_some old.parent ≡ true → (from : ℕ) → count_by from result ≡ reach from old

-- An index is one of these.
abbrev pub is_among : List ℕ → ℕ → Bool
is_among gone n = list_any (λ m. m == n) gone

-- The entries whose indexes, from this one on, are not among these.
abbrev pub kept_from : List ℕ → ℕ → List EpochEntry → List EpochEntry
kept_from gone n [] = []
kept_from gone n (e ∷ es) = if is_among gone n then kept_from gone (n + 1) es
    else e ∷ kept_from gone (n + 1) es

-- The plan of a file of these entries without those that have these indexes, or none. Nothing is
-- damaged.
abbrev pub GivesPlan : Form → Texts → List EpochEntry → List ℕ → Result (Option Plan) WalkRefusal
    → Type 0
GivesPlan form texts es gone (Ok plan) = IsFinished form texts es (kept_from gone 0 es) plan
GivesPlan form texts es gone (Err (Damaged at)) = ⊥
GivesPlan form texts es gone (Err _) = Unit {0}

-- The same for a file that is an epoch of a form with these records, whatever its entries are.
abbrev pub PlansWhole : Form → FileName → List Seen → List ℕ → Result (Option Plan) WalkRefusal
    → Content → Type 0
PlansWhole form file seen gone result k = (n : ℕ) (is : IsEpoch form n (bytes_of (k file).seen) seen)
    → GivesPlan form (texts_in k) is.entries gone result

-- The entries that stay after one more, which is left out or not.
abbrev pub staying_with : Bool → List EpochEntry → EpochEntry → List EpochEntry
staying_with leaves kept e = if leaves then kept else kept ++ e ∷ []

-- Of these entries those stay, and so they are planned after a call. Nothing is damaged.
abbrev pub IsPlannedTake : Texts → List EpochEntry → List EpochEntry → Planned → Result Unit WalkRefusal
    → Type 0
IsPlannedTake texts es kept new (Ok _) = IsPlanned texts es kept new
IsPlannedTake texts es kept new (Err (Damaged at)) = ⊥
IsPlannedTake texts es kept new (Err _) = Unit {0}

-- Where the entries of a file are planned so, and it has another one, that is left out or stays.
abbrev pub TakesNext : Planned → Seen → Bool → Planned → Result Unit WalkRefusal → Content → Type 0
TakesNext old seen leaves new result k = (es kept : List EpochEntry) (e : EpochEntry)
    → IsPlanned (texts_in k) es kept old → HasNext old.form (texts_in k) old.file es e
    → seen ≡ seen_after old.form es e
    → IsPlannedTake (texts_in k) (es ++ e ∷ []) (staying_with leaves kept e) new result

-- The plan of the whole new file, where the records are those of an epoch of a form. Nothing is damaged.
abbrev pub PlansFile : Form → FileName → ℕ → List Seen → List ℕ → Result Plan WalkRefusal → Content
    → Type 0
PlansFile form file n seen gone (Ok plan) k = (is : IsEpoch form n (bytes_of (k file).seen) seen)
    → IsPlanWhole (texts_in k) plan
    × (written_by (texts_in k) plan ≡ file_of form (kept_from gone 0 is.entries))
PlansFile form file n seen gone (Err (Damaged at)) k =
    IsEpoch form n (bytes_of (k file).seen) seen → ⊥
PlansFile form file n seen gone (Err _) k = Unit {0}

-- The results of a rewriting: the old file is an epoch of a form, and the new one, if it wasn't there,
-- has its entries but those with these indexes, and is so long, and stays as it was where these are
-- all; or the old file is damaged, or memory ran out, and nothing was done; or nothing is told.
abbrev pub RewritesEpoch : Form → FileName → ℕ → FileName → List ℕ → Content → Content
    → Result ℕ WalkRefusal → Type 0
RewritesEpoch form from n to gone k m (Ok long) = (seen : List Seen)
    × (is : IsEpoch form n (bytes_of (k from).seen) seen)
    × (long ≡ length (file_of form (kept_from gone 0 is.entries)))
    × (bytes_of (k to).seen ≡ []
    → bytes_of (m to).seen ≡ file_of form (kept_from gone 0 is.entries))
    × (kept_from gone 0 is.entries ≡ [] → (m to).seen ≡ (k to).seen)
RewritesEpoch form from n to gone k m (Err (Damaged at)) =
    IsDamagedEpochAt form n (bytes_of (k from).seen) at × Unchanged k m
RewritesEpoch form from n to gone k m (Err DiskFault) = Unit {0}
RewritesEpoch form from n to gone k m (Err NoMemory) = Unchanged k m

-- An entry is recorded at another offset, with another commit.
pub record IsMoved (seen : Seen) (at : ℕ) (commit : ObjectId) (made : Seen) : Type 0 where
  pub kind : made.kind ≡ seen.kind
  pub at_is : made.at ≡ at
  pub text_at : made.text_at + seen.at ≡ at + seen.text_at
  pub size : made.size ≡ seen.size
  pub blob : made.blob ≡ seen.blob
  pub commit_is : made.commit ≡ commit
  pub moment : made.moment ≡ seen.moment
  pub id : made.id ≡ seen.id
  pub content : made.content ≡ seen.content

-- The blob and the tree of an entry were added to a plan, and then these bytes.
abbrev pub CopiesEntry : FileName → Seen → List ℕ → Plan → Plan → Type 0
CopiesEntry file seen bytes old new = (n : ℕ)
    × (seen.at + n ≡ seen.text_at + seen.size + tree_size (form_of seen.blob))
    × IsPlan (with_range old file seen.at n)
    × (new ≡ with_bytes (with_range old file seen.at n) bytes)

-- A commit that an entry of a form gets after a parent is that of the bytes where the file is to have
-- its text. They have the text's size and its blob id, or the entry is damaged.
abbrev pub GivesCommit : Form → Seen → Option ObjectId → List ℕ → Result NewCommit WalkRefusal → Type 0
GivesCommit form seen parent text (Ok made) = (length text ≡ seen.size)
    × (blob_id_of form text ≡ seen.blob)
    × (made.bytes ≡ commit_text form seen.kind text seen.moment parent)
    × (made.id ≡ commit_id form seen.kind text seen.moment parent)
GivesCommit form seen parent text (Err (Damaged at)) =
    (at ≡ seen.at) × (length text ≡ seen.size → blob_id_of form text ≡ seen.blob → ⊥)
GivesCommit form seen parent text (Err _) = Unit {0}

-- The same, where the file has the text that its record names.
abbrev pub CommitsAnew : Form → FileName → Seen → Option ObjectId → Result NewCommit WalkRefusal
    → Content → Type 0
CommitsAnew form file seen parent result k =
    GivesCommit form seen parent (file_range k file seen.text_at seen.size) result

-- A text that is copied has its size and its blob id. One that is damaged hasn't.
abbrev pub ChecksText : Form → FileName → Seen → Result Seen WalkRefusal → Content → Type 0
ChecksText form file seen (Ok made) k = (length (file_range k file seen.text_at seen.size) ≡ seen.size)
    × (blob_id_of form (file_range k file seen.text_at seen.size) ≡ seen.blob)
ChecksText form file seen (Err (Damaged at)) k = (at ≡ seen.at)
    × (length (file_range k file seen.text_at seen.size) ≡ seen.size
    → blob_id_of form (file_range k file seen.text_at seen.size) ≡ seen.blob → ⊥)
ChecksText form file seen (Err _) k = Unit {0}

-- So it is where an entry was left out before.
abbrev pub Checks : Planned → Seen → Result Seen WalkRefusal → Content → Type 0
Checks old seen result k = is_some old.changed ≡ true → ChecksText old.form old.file seen result k

-- A file doesn't have the text of an entry of a form in its place: so many bytes with the blob id.
abbrev pub LacksText : Form → FileName → Seen → Content → Type 0
LacksText form file seen k = length (file_range k file seen.text_at seen.size) ≡ seen.size
    → blob_id_of form (file_range k file seen.text_at seen.size) ≡ seen.blob → ⊥

-- An error that tells of damage tells the offset of the entry, whose text isn't in its place where the
-- disk tells its content.
abbrev pub TellsLack : Form → FileName → Seen → Option Content → WalkRefusal → Type 0
TellsLack form file seen content (Damaged at) =
    (at ≡ seen.at) × WhereTold (LacksText form file seen) content
TellsLack form file seen content _ = Unit {0}
