-- What is planned of the epochs of an archive, before its map is.
use Rattle.std.specs.Prelude.{◌≡◌, ◌+◌, ◌-◌, ◌*◌, ℕ, List, [], slice_get, Option, Some, None}
use Rattle.std.specs.List.{flat_map}
use Rattle.arch_base.specs.declared.ids.ObjectId.{ObjectId}
use Rattle.arch_base.specs.declared.ids.Form.{Form}
use Rattle.disk_model.specs.Sizes.{record_size}
use Rattle.disk_model.specs.declared.name.FileKind.TheVariants as kind
use Rattle.root_slots.specs.declared.root.Root.{Root}
use Rattle.root_change.specs.Parts.{texts_of}
use Rattle.root_change.specs.Rewriting.{Plan, IsPlan, IsPlanWhole, MayCarryAll, plan_count, plan_of, planned, written_by}
use Rattle.root_change.specs.Texts.{Texts}
use Rattle.root_change.specs.declared.plan.Target.TheVariants.{Anew}
use Rattle.root_change.specs.declared.sources.Source.{Source}
use Rattle.root_change.specs.declared.sources.Source.TheVariants.{Bytes}
use Rattle.number_map.specs.Records.{record_bytes}
use Rattle.number_map.specs.declared.line.Record.{Record}
use Rattle.arch_model.specs.Archives.{Entry, Archive, in_epoch, messages}
use Rattle.arch_model.specs.Epochs.{epoch_bytes, last_commit}
use Rattle.arch_model.specs.Validity.{Rise}
use Rattle.store_finding.specs.declared.entries.StoredEntry.{StoredEntry}
use Rattle.store_finding.specs.Extents.{AreNamedAfter, AreUpToEpoch, LieFrom}
use Rattle.store_finding.specs.Recovery.{bytes_in, parts_of, records_from}
use Rattle.store_finding.specs.Kept.{stored_after}
use Rattle.store_planning.specs.Planning.{Planning}

-- Plans write the epochs of these entries, which are kept. No map is planned.
pub record PlansEpochs (root : Root) (cache : List ℕ) (a : Archive) (es : List Entry) (p : Planning)
    : Type 0 where
  pub entries : p.entries ≡ stored_after a.config.form [] es
  pub parts : (e : ℕ)
      → planned (texts_of root (parts_of a cache)) (plan_of p.plans kind.Epoch e) (bytes_in a e)
      ≡ epoch_bytes a.config.form (in_epoch es e)
  pub map : (n : ℕ) → plan_of p.plans kind.Map n ≡ None
  pub whole : (i : ℕ) (plan : Plan) → slice_get p.plans i ≡ Some plan
      → IsPlanWhole (texts_of root (parts_of a cache)) plan

-- What holds of a planner of epochs whatever the disk holds: its plans may be carried out, none is that
-- of the map, and the entries that are kept lie in the new files.
pub record AreEpochsReady (root : Root) (p : Planning) : Type 0 where
  pub may : MayCarryAll root p.plans
  pub no_map : (n : ℕ) → plan_of p.plans kind.Map n ≡ None
  pub named : AreNamedAfter root p.plans p.entries

-- The parent of the next commit of an epoch: the last commit there, where entries lie one after the
-- other and none is in a later epoch.
abbrev pub IsParentIn : List StoredEntry → ℕ → Option ObjectId → Type 0
IsParentIn entries epoch parent = (form : Form) (es : List Entry) → entries ≡ stored_after form [] es
    → LieFrom 0 0 entries → AreUpToEpoch epoch entries
    → parent ≡ last_commit form None (in_epoch es epoch)

-- The commit of an entry that is kept, if there is one.
abbrev pub commit_if : Option StoredEntry → Option ObjectId
commit_if None = None
commit_if (Some e) = Some e.seen.commit

-- The records of a map of a form with this next number: those of the messages among the entries that
-- are kept, where their numbers rise.
abbrev pub AreRecordsOf : Form → List StoredEntry → ℕ → List Record → Type 0
AreRecordsOf form entries next lines = (es : List Entry) → entries ≡ stored_after form [] es → Rise 1 0 es
    → lines ≡ records_from form (messages es) 1 (next - 1)

-- A plan writes the map of a form with these records anew, from bytes alone.
pub record PlansRecords (form : Form) (lines : List Record) (next : ℕ) (plan : Plan) : Type 0 where
  pub kind : plan.kind ≡ kind.Map
  pub number : plan.number ≡ 0
  pub target : plan.target ≡ Anew
  pub valid : IsPlan plan
  pub count : plan_count plan + record_size form ≡ record_size form * next
  pub bytes_only : (i : ℕ) (source : Source) → slice_get plan.sources i ≡ Some source
      → (offset size : ℕ) × (source ≡ Bytes offset size)
  pub whole : (texts : Texts) → IsPlanWhole texts plan
  pub written : (texts : Texts) → written_by texts plan ≡ flat_map record_bytes lines

-- A plan is that of the map of the entries that are kept.
abbrev pub PlansMapOf : Form → List StoredEntry → ℕ → Plan → Type 0
PlansMapOf form entries next plan = (lines : List Record) × AreRecordsOf form entries next lines
    × PlansRecords form lines next plan
