-- Private: one more entry is planned in another form.
use Rattle.std.specs.Prelude.{◌≡◌, ◌+◌, ◌-◌, ◌≤◌, ◌==◌, ℕ, List, [], ◌∷◌, ◌++◌, length, slice_get, slice_set, Option, Some, None, if◌then◌else◌}
use Rattle.std.specs.List.{AllByRecursion, AllZip}
use Rattle.arch_base.specs.Ids.{form_of}
use Rattle.arch_base.specs.declared.ids.Form.{Form}
use Rattle.arch_base.specs.declared.ids.ObjectId.{ObjectId}
use Rattle.disk_model.specs.declared.name.FileKind.TheVariants as kind
use Rattle.disk_model.specs.declared.name.FileName.{FileName}
use Rattle.disk_model.specs.Disk.{Content, WhereTold, bytes_of}
use Rattle.disk_model.specs.Sizes.{epoch_count}
use Rattle.root_slots.specs.declared.root.Root.{Root}
use Rattle.root_change.specs.declared.plan.Target.TheVariants.{Anew}
use Rattle.root_change.specs.Parts.{texts_of}
use Rattle.root_change.specs.Rewriting.{IsPlan, IsPlanFrom, IsPlanWhole, Plan, no_plan, plan_count, with_bytes, with_range, written_by}
use Rattle.root_change.specs.Texts.{Texts}
use Rattle.git_objects.specs.Objects.{blob_id_of}
use Rattle.mail_commits.specs.Entries.{commit_id, commit_text, magic, tree_of}
use Rattle.arch_model.specs.Archives.{Archive, Entry, in_epoch, is_message}
use Rattle.arch_model.specs.Epochs.{epoch_bytes}
use Rattle.epoch_file.specs.Lying.{tree_end}
use Rattle.epoch_file.specs.Planning.{EndUpTo}
use Rattle.epoch_file.specs.declared.entry.Seen.{Seen}
use Rattle.id_clashes.specs.declared.clashes.TwoIds.{TwoIds}
use Rattle.store_finding.specs.declared.entries.StoredEntry.{StoredEntry}
use Rattle.store_finding.specs.Damage.{named_length}
use Rattle.store_finding.specs.Extents.{LieFrom}
use Rattle.store_finding.specs.Files.{epoch_file_of}
use Rattle.store_finding.specs.Kept.{IsDiskWith, stored_after}
use Rattle.store_finding.specs.Reading.{StandsAt}
use Rattle.store_finding.specs.Recovery.{parts_of}
use Rattle.convert_planning.specs.Converting.{Conversion, ConvertedOf, kept_store}

-- A plan of each epoch that writes nothing.
pub record StartsPlans (plans : List Plan) : Type 0 where
  pub count : length plans ≡ epoch_count
  pub each : (x : ℕ) (plan : Plan) → slice_get plans x ≡ Some plan → plan ≡ no_plan kind.Epoch x Anew

-- A plan with the magic of a form, if it wrote nothing.
abbrev pub begun : Form → Plan → Plan
begun form plan = if plan_count plan == 0 then with_bytes plan (magic form) else plan

-- An entry was added to the plan of its epoch at an offset: its blob, copied from a file, and these bytes
-- of its other objects.
pub record Extends (form : Form) (file : FileName) (seen : Seen) (objects : List ℕ) (old new : Plan)
    (at : ℕ) : Type 0 where
  pub count : ℕ
  pub sum : seen.at + count ≡ seen.text_at + seen.size
  pub start : at ≡ plan_count (begun form old)
  pub first : IsPlan (begun form old)
  pub second : IsPlan (with_range (begun form old) file seen.at count)
  pub valid : IsPlan new
  pub is : new ≡ with_bytes (with_range (begun form old) file seen.at count) objects

-- The commit of an entry, if it is in an epoch.
abbrev pub commit_if : Option StoredEntry → ℕ → Option ObjectId
commit_if None epoch = None
commit_if (Some e) epoch = if e.epoch == epoch then Some e.seen.commit else None

-- The commit of the last entry, if it is in an epoch.
abbrev pub parent_in : List StoredEntry → ℕ → Option ObjectId
parent_in entries epoch = commit_if (slice_get entries (length entries - 1)) epoch

-- What is kept of an entry at another offset, with these ids.
pub record IsMade (old : StoredEntry) (at : ℕ) (blob commit : ObjectId) (new : StoredEntry) : Type 0 where
  pub number : new.number ≡ old.number
  pub epoch : new.epoch ≡ old.epoch
  pub kind : new.seen.kind ≡ old.seen.kind
  pub at_is : new.seen.at ≡ at
  pub front : old.seen.at ≤ old.seen.text_at
  pub text_at : new.seen.text_at + old.seen.at ≡ at + old.seen.text_at
  pub size : new.seen.size ≡ old.seen.size
  pub blob_is : new.seen.blob ≡ blob
  pub commit_is : new.seen.commit ≡ commit
  pub moment : new.seen.moment ≡ old.seen.moment
  pub id : new.seen.id ≡ old.seen.id
  pub content : new.seen.content ≡ old.seen.content

-- An entry with a text was taken.
pub record TakesText (old : Conversion) (file : FileName) (e : StoredEntry) (text : List ℕ)
    (new : Conversion) : Type 0 where
  pub plan : Plan
  pub there : slice_get old.plans e.epoch ≡ Some plan
  pub after : Plan
  pub at : ℕ
  pub extends : Extends old.form file e.seen (tree_of old.form e.seen.kind text
      ++ commit_text old.form e.seen.kind text e.seen.moment (parent_in old.entries e.epoch)) plan after at
  pub plans : new.plans ≡ slice_set old.plans e.epoch after
  pub made : StoredEntry
  pub made_is : IsMade e at (blob_id_of old.form text)
      (commit_id old.form e.seen.kind text e.seen.moment (parent_in old.entries e.epoch)) made
  pub entries : new.entries ≡ old.entries ++ made ∷ []
  pub form_is : new.form ≡ old.form

-- An entry was taken, with the text that is in its place in a file, which has its blob id.
pub record TakesStored (old : Conversion) (file : FileName) (e : StoredEntry) (content : Option Content)
    (new : Conversion) : Type 0 where
  pub text : List ℕ
  pub size : length text ≡ e.seen.size
  pub stands : WhereTold (λ (k : Content).
      StandsAt (bytes_of (k file).seen) e.seen.text_at e.seen.size text) content
  pub blob : blob_id_of (form_of e.seen.blob) text ≡ e.seen.blob
  pub takes : TakesText old file e text new

-- A text that isn't that of an entry: bytes in its place have another blob id.
pub record IsTextLack (own : FileName) (e : StoredEntry) (content : Option Content) (file : FileName)
    (at : ℕ) : Type 0 where
  pub file_is : file ≡ own
  pub at_is : at ≡ e.seen.at
  pub text : List ℕ
  pub size : length text ≡ e.seen.size
  pub stands : WhereTold (λ (k : Content).
      StandsAt (bytes_of (k own).seen) e.seen.text_at e.seen.size text) content
  pub other : blob_id_of (form_of e.seen.blob) text ≡ e.seen.blob → ⊥

-- A plan writes an epoch of a root anew, from ranges of its bytes that count.
pub record IsEpochPlan (root : Root) (x : ℕ) (plan : Plan) : Type 0 where
  pub kind_is : plan.kind ≡ kind.Epoch
  pub number : plan.number ≡ x
  pub target : plan.target ≡ Anew
  pub valid : IsPlan plan
  pub from : IsPlanFrom (epoch_file_of root x) plan
  pub ends : EndUpTo (named_length root x) plan

-- An entry in an epoch up to this one ends where its epoch does by the plans, or before.
pub record EndsInPlans (plans : List Plan) (epoch : ℕ) (e : StoredEntry) : Type 0 where
  pub low : e.epoch ≤ epoch
  pub plan : Plan
  pub there : slice_get plans e.epoch ≡ Some plan
  pub ends : tree_end e.seen ≤ plan_count plan

-- Entries of epochs up to one are planned, whatever the disk holds.
pub record TakenUpTo (root : Root) (form : Form) (epoch : ℕ) (old : List StoredEntry) (p : Conversion)
    : Type 0 where
  pub count : length p.plans ≡ epoch_count
  pub each : (x : ℕ) (plan : Plan) → slice_get p.plans x ≡ Some plan → IsEpochPlan root x plan
  pub kept : AllZip (ConvertedOf form) old p.entries
  pub lie : LieFrom 0 0 p.entries
  pub ends : AllByRecursion (EndsInPlans p.plans epoch) p.entries
  pub form_is : p.form ≡ form

-- All entries are.
abbrev pub HasTaken : Root → Form → List StoredEntry → Conversion → Type 0
HasTaken root form old p = (epoch : ℕ) × TakenUpTo root form epoch old p

-- The first entries of an archive are planned in a form, where files have these texts: each epoch is
-- written with those of them that are in it.
pub record ConvertsFirst (texts : Texts) (form : Form) (es : List Entry) (p : Conversion) : Type 0 where
  pub entries : p.entries ≡ stored_after form [] es
  pub written : (x : ℕ) (plan : Plan) → slice_get p.plans x ≡ Some plan
      → IsPlanWhole texts plan × (written_by texts plan ≡ epoch_bytes form (in_epoch es x))

-- All entries of a store's archive are planned so.
abbrev pub ConvertsAll : Root → Form → List StoredEntry → Conversion → Content → Type 0
ConvertsAll root form old p k = (slot : ℕ) (a : Archive) (cache : List ℕ)
    → IsDiskWith (kept_store root slot old) cache a k
    → ConvertsFirst (texts_of root (parts_of a cache)) form a.entries p

-- The numbers of messages that are kept, and their ids in two forms.
abbrev pub two_ids : List StoredEntry → List StoredEntry → List TwoIds
two_ids [] new = []
two_ids (e ∷ es) [] = []
two_ids (e ∷ es) (f ∷ fs) =
    if is_message e.seen.kind
    then record { number = e.number; old = e.seen.blob; new = f.seen.blob } ∷ two_ids es fs
    else two_ids es fs
