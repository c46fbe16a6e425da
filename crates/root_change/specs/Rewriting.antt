-- Parts of an archive that a command writes anew or appends to, from bytes and ranges of the old files.
use Rattle.std.specs.Prelude.{◌≡◌, ◌⊎◌, ◌+◌, ◌-◌, ◌*◌, ◌<◌, ◌≤◌, ◌^◌, ◌==◌, ◌&&◌, nat_lt, ℕ, Bool, true, false, List, [], ◌∷◌, ◌++◌, length, get_or, slice_get, Option, Some, None, Result, Err, IfOk, OnOk, if◌then◌else◌}
use Rattle.std.specs.List.{flat_map, sum_by}
use Rattle.arch_base.specs.declared.ids.Form.{Form}
use Rattle.arch_base.specs.Configs.{with_form}
use Rattle.arch_base.specs.Counts.{RoseIf}
use Rattle.disk_model.specs.declared.disk.Disk.{Ghosts as Disk}
use Rattle.disk_model.specs.declared.name.FileKind.{FileKind}
use Rattle.disk_model.specs.declared.name.FileKind.TheVariants as kind
use Rattle.disk_model.specs.declared.name.FileName.{FileName}
use Rattle.disk_model.specs.Beside.{RunsBeside}
use Rattle.disk_model.specs.Disk.{Files, Content, BothTold, WhereTold}
use Rattle.disk_model.specs.Moments.{LeavesOnly}
use Rattle.disk_model.specs.Sizes.{epoch_count, record_size}
use Rattle.disk_model.specs.Synced.{IsSettled}
use Rattle.root_slots.specs.declared.root.Place.{Place}
use Rattle.root_slots.specs.declared.root.Root.{Root}
use Rattle.root_slots.specs.OneRoot.{RunsOneRoot}
use Rattle.root_slots.specs.Slots.{HasNewRoot}
use Rattle.root_slots.specs.Spelling.{spelling}
use Rattle.root_slots.specs.Valid.{IsRoot, no_place}
use Rattle.root_change.specs.declared.plan.Target.{Target}
use Rattle.root_change.specs.declared.plan.Target.TheVariants.{Anew, Behind}
use Rattle.root_change.specs.declared.rewriting.RewriteRefusal.{RewriteRefusal}
use Rattle.root_change.specs.declared.rewriting.RewriteRefusal.TheVariants.{DiskFault, Short}
use Rattle.root_change.specs.declared.sources.Source.{Source}
use Rattle.root_change.specs.declared.sources.Source.TheVariants.{Bytes, Range}
use Rattle.root_change.specs.Copying.{range_of}
use Rattle.root_change.specs.Gathering.{source_count}
use Rattle.root_change.specs.Names.{bounds_of, place_of, named_end}
use Rattle.root_change.specs.Texts.{Texts, HasSizes}
use Rattle.root_change.specs.Parts.{Parts, texts_of, RecoversPartsBy, IsOwnOfParts}

-- What a command writes of a part: whether in place of its bytes or after them, and the sources, one
-- after the other. Sources that are bytes are ranges of these.
pub record Plan : Type 0 where
  pub kind : FileKind
  pub number : ℕ
  pub target : Target
  pub bytes : List ℕ
  pub sources : List Source

-- A plan with bytes after its sources.
abbrev pub with_bytes : Plan → List ℕ → Plan
with_bytes plan bytes = record {
  kind = plan.kind;
  number = plan.number;
  target = plan.target;
  bytes = plan.bytes ++ bytes;
  sources = plan.sources ++ Bytes (length plan.bytes) (length bytes) ∷ [];
}

-- A plan with a range of an old file after its sources.
abbrev pub with_range : Plan → FileName → ℕ → ℕ → Plan
with_range plan file offset count = record {
  kind = plan.kind;
  number = plan.number;
  target = plan.target;
  bytes = plan.bytes;
  sources = plan.sources ++ Range (record { file = file; offset = offset; count = count }) ∷ [];
}

-- A plan that writes nothing.
abbrev pub no_plan : FileKind → ℕ → Target → Plan
no_plan kind_ number target =
    record { kind = kind_; number = number; target = target; bytes = []; sources = [] }

-- Bytes were added to a plan.
abbrev pub PushesBytes : Plan → List ℕ → Plan → Type 0
PushesBytes old bytes new = new ≡ with_bytes old bytes

-- The bytes of a source, where files have these texts.
abbrev pub source_text : List ℕ → Texts → Source → List ℕ
source_text bytes texts (Bytes offset count) = range_of bytes offset count
source_text bytes texts (Range range) = range_of (texts range.file) range.offset range.count

-- The bytes of several sources, one after the other.
abbrev pub gathered_text : List ℕ → Texts → List Source → List ℕ
gathered_text bytes texts sources = flat_map (source_text bytes texts) sources

-- The bytes that a plan writes, where the old files have these texts.
abbrev pub written_by : Texts → Plan → List ℕ
written_by texts plan = gathered_text plan.bytes texts plan.sources

-- The number of these bytes, if all sources are whole.
abbrev pub plan_count : Plan → ℕ
plan_count plan = sum_by source_count plan.sources

-- A source is whole, where files have these texts.
abbrev pub IsWholeIn : List ℕ → Texts → Source → Type 0
IsWholeIn bytes texts (Bytes offset count) = offset + count ≤ length bytes
IsWholeIn bytes texts (Range range) = range.offset + range.count ≤ length (texts range.file)

-- Each source of a plan is whole.
abbrev pub IsPlanWhole : Texts → Plan → Type 0
IsPlanWhole texts plan = (i : ℕ) (source : Source) → slice_get plan.sources i ≡ Some source
    → IsWholeIn plan.bytes texts source

-- A source that is a range is one of this file.
abbrev pub IsSourceFrom : FileName → Source → Type 0
IsSourceFrom file (Bytes offset count) = Unit {0}
IsSourceFrom file (Range range) = range.file ≡ file

-- Each range among the sources of a plan is one of this file.
abbrev pub IsPlanFrom : FileName → Plan → Type 0
IsPlanFrom file plan = (i : ℕ) (source : Source) → slice_get plan.sources i ≡ Some source
    → IsSourceFrom file source

-- A source may be planned: bytes lie within those of the plan, and a range ends below 2^62.
abbrev pub MayBeSource : List ℕ → Source → Type 0
MayBeSource bytes (Bytes offset count) = offset + count ≤ length bytes
MayBeSource bytes (Range range) = range.offset + range.count < 2 ^ 62

-- Each source of a plan may be planned, and they have fewer than 2^62 bytes.
pub record IsPlan (plan : Plan) : Type 0 where
  pub sources : (i : ℕ) (source : Source) → slice_get plan.sources i ≡ Some source
      → MayBeSource plan.bytes source
  pub short : plan_count plan < 2 ^ 62

-- Two kinds of files are the same.
abbrev pub same_kind : FileKind → FileKind → Bool
same_kind kind.Root kind.Root = true
same_kind kind.Map kind.Map = true
same_kind kind.Epoch kind.Epoch = true
same_kind kind.Cache kind.Cache = true
same_kind _ _ = false

-- The first plan of a part, if there is one.
abbrev pub plan_of : List Plan → FileKind → ℕ → Option Plan
plan_of [] kind_ number = None
plan_of (plan ∷ plans) kind_ number =
    if same_kind plan.kind kind_ && plan.number == number then Some plan
    else plan_of plans kind_ number

-- The bytes of a part after a command that plans to write these.
abbrev pub bytes_by : Target → List ℕ → List ℕ → List ℕ
bytes_by Anew before written = written
bytes_by Behind before written = before ++ written

-- The same, if there is a plan. Otherwise the part stays.
abbrev pub planned : Texts → Option Plan → List ℕ → List ℕ
planned texts None before = before
planned texts (Some plan) before = bytes_by plan.target before (written_by texts plan)

-- The parts after plans, where the old files have these texts. There is no cache.
abbrev pub replanned : Texts → List Plan → Parts → Parts
replanned texts plans parts kind.Root n = parts kind.Root n
replanned texts plans parts kind.Map n = planned texts (plan_of plans kind.Map n) (parts kind.Map n)
replanned texts plans parts kind.Epoch n =
    planned texts (plan_of plans kind.Epoch n) (parts kind.Epoch n)
replanned texts plans parts kind.Cache n = []

-- The same, of parts that a root names.
abbrev pub rewritten : Root → List Plan → Parts → Parts
rewritten root plans parts = replanned (texts_of root parts) plans parts

-- The `Place` of an epoch that is written anew with so many bytes, by the next sequence.
abbrev pub place_anew : ℕ → ℕ → Place
place_anew next count = if nat_lt 0 count then record { generation = next; length = count } else no_place

-- The `Place` of a part with so many bytes more: in its file, or in a new one if it has none.
abbrev pub place_behind : ℕ → Place → ℕ → Place
place_behind next place count =
    if nat_lt 0 place.length then record { generation = place.generation; length = place.length + count }
    else place_anew next count

-- The `Place` of an epoch after its plan.
abbrev pub place_by : ℕ → Target → Place → ℕ → Place
place_by next Anew place count = place_anew next count
place_by next Behind place count = place_behind next place count

-- The same, if there is a plan. Otherwise it stays.
abbrev pub place_planned : ℕ → Option Plan → Place → Place
place_planned next None place = place
place_planned next (Some plan) place = place_by next plan.target place (plan_count plan)

-- The `Place` of the map after its plan. A map without bytes is named, too.
abbrev pub map_by : ℕ → Target → Place → ℕ → Place
map_by next Anew place count = record { generation = next; length = count }
map_by next Behind place count = record { generation = place.generation; length = place.length + count }

-- The same, if there is a plan. Otherwise it stays.
abbrev pub map_planned : ℕ → Option Plan → Place → Place
map_planned next None place = place
map_planned next (Some plan) place = map_by next plan.target place (plan_count plan)

-- The root after plans, with this next number and objects of this form. It has the next sequence, and no
-- cache.
pub record IsRootAfter (old : Root) (plans : List Plan) (number : ℕ) (form : Form) (new : Root) : Type 0 where
  pub config : new.config ≡ with_form form old.config
  pub sequence : new.sequence ≡ old.sequence + 1
  pub next : new.next ≡ number
  pub map : new.map ≡ map_planned (old.sequence + 1) (plan_of plans kind.Map 0) old.map
  pub epochs : (e : ℕ) → e < epoch_count → get_or new.epochs e no_place
      ≡ place_planned (old.sequence + 1) (plan_of plans kind.Epoch e) (get_or old.epochs e no_place)
  pub count : length new.epochs ≡ epoch_count
  pub cache : new.cache ≡ no_place

-- A part may be planned: the map, or an epoch.
abbrev pub IsPartToPlan : FileKind → ℕ → Type 0
IsPartToPlan kind.Map number = number ≡ 0
IsPartToPlan kind.Epoch number = number < epoch_count
IsPartToPlan _ number = ⊥

-- The file of a part by a root.
abbrev pub file_by : Root → FileKind → ℕ → FileName
file_by root kind_ number =
    record { kind = kind_; number = number; generation = (place_of root kind_ number).generation }

-- A source that is a range lies in the bytes that count of its file by a root.
abbrev pub SourceIsWithin : Root → Source → Type 0
SourceIsWithin root (Bytes offset count) = Unit {0}
SourceIsWithin root (Range range) = range.offset + range.count ≤ named_end root range.file

-- A plan may be carried out: it is one of a part that may be planned, and its ranges lie in the bytes
-- that count of the part's file by the root. What it appends to is shorter than 2^62 bytes, and gets
-- bytes alone.
pub record MayCarry (root : Root) (plan : Plan) : Type 0 where
  pub part : IsPartToPlan plan.kind plan.number
  pub valid : IsPlan plan
  pub comes : IsPlanFrom (file_by root plan.kind plan.number) plan
  pub within : (i : ℕ) (source : Source) → slice_get plan.sources i ≡ Some source
      → SourceIsWithin root source
  pub room : plan.target ≡ Behind → (place_of root plan.kind plan.number).length < 2 ^ 62
  pub bytes_only : plan.target ≡ Behind → (i : ℕ) (source : Source)
      → slice_get plan.sources i ≡ Some source → (offset count : ℕ) × (source ≡ Bytes offset count)

-- No part is planned twice.
abbrev pub AreApart : List Plan → Type 0
AreApart [] = Unit {0}
AreApart (plan ∷ plans) = (plan_of plans plan.kind plan.number ≡ None) × AreApart plans

-- Each plan may be carried out, and no part is planned twice.
pub record MayCarryAll (root : Root) (plans : List Plan) : Type 0 where
  pub each : (i : ℕ) (plan : Plan) → slice_get plans i ≡ Some plan → MayCarry root plan
  pub apart : AreApart plans

-- The map has a record of this form for each number below the next one, after its plan.
abbrev pub MapFits : Root → List Plan → ℕ → Form → Type 0
MapFits old plans number form =
    (map_planned (old.sequence + 1) (plan_of plans kind.Map 0) old.map).length
    + record_size form ≡ record_size form * number

-- A range wasn't whole.
abbrev pub IsShort : {T : Type 0} → Result T RewriteRefusal → Type 0
IsShort (Err (Short file at)) = Unit {0}
IsShort _ = ⊥

-- What holds of the file and the offset with which it is told that a range wasn't whole.
abbrev pub IfShort : {T : Type 0} → Result T RewriteRefusal → (FileName → ℕ → Type 0) → Type 0
IfShort (Err (Short file at)) P = P file at
IfShort _ P = Unit {0}

-- The file of a plan's part by a root, and how many of its bytes count there.
pub record IsPartOfPlan (root : Root) (plan : Plan) (file : FileName) (at : ℕ) : Type 0 where
  pub file_is : file ≡ file_by root plan.kind plan.number
  pub at_is : at ≡ (place_of root plan.kind plan.number).length

-- The same of the part of one of several plans.
pub record IsPlannedPart (root : Root) (plans : List Plan) (file : FileName) (at : ℕ) : Type 0 where
  pub index : ℕ
  pub plan : Plan
  pub there : slice_get plans index ≡ Some plan
  pub part : IsPartOfPlan root plan file at

-- The disk failed.
abbrev pub IsFailed : {T : Type 0} → Result T RewriteRefusal → Type 0
IsFailed (Err DiskFault) = Unit {0}
IsFailed _ = ⊥

-- Files stand for parts by the old root, or for those after plans by the root after them.
abbrev pub RecoversPlanned : Root → List Plan → ℕ → Form → Parts → Files → Type 0
RecoversPlanned root plans number form parts image = RecoversPartsBy root parts image
    ⊎ ((made : Root) × IsRootAfter root plans number form made
    × RecoversPartsBy made (rewritten root plans parts) image)

-- What carrying out plans promises. At each moment a crash leaves files that stand for the old parts
-- or for those after the plans. After `Ok` the disk is exactly that of the latter by the root that is
-- returned, and all that reads give is on it. Whatever the disk held, that root is the one after the
-- plans, and the files are as long as it says. It fails only if the count of faults rose. A disk that
-- tells its content is never found short. On any other the file of a planned part may be: that is told
-- with the number of bytes that count there, and all that the old root names stays.
pub record CarriesOut {D : Type 0} (g : Disk D) (old new : D) (root : Root) (free : ℕ)
    (plans : List Plan) (number : ℕ) (form : Form) (result : Result Root RewriteRefusal) : Type 0 where
  pub crash : (parts : Parts) → IsOwnOfParts root free parts (g.content old)
      → LeavesOnly g old new (RecoversPlanned root plans number form parts)
  pub done : (parts : Parts) → IsOwnOfParts root free parts (g.content old)
      → IfOk result (λ made. IsOwnOfParts made (1 - free) (rewritten root plans parts) (g.content new))
  pub whole : WhereTold (λ (k : Content). IsShort result → ⊥) (g.content old)
  pub short : IfShort result (IsPlannedPart root plans)
  pub settled : OnOk result (WhereTold IsSettled (g.content new))
  pub root_is : IfOk result (λ made. IsRootAfter root plans number form made)
  pub valid : IfOk result (λ made. IsRoot made)
  pub sizes : IfOk result (λ made. WhereTold (HasSizes made) (g.content new))
  pub cause : RoseIf (IsFailed result) (g.faults old) (g.faults new)
  -- The root file has that root in the slot, whose gate is open, and is otherwise as it was.
  pub rooted : IfOk result (λ made. BothTold (HasNewRoot free (spelling made)) (g.content old)
      (g.content new))
  -- At each moment, also after a fault, at most that slot is written, and no root comes into it but the
  -- one after the plans.
  pub crash_root : (made : Root) × IsRootAfter root plans number form made
      × RunsOneRoot g free (Some (spelling made)) old new
  pub crash_beside : IsShort result → RunsBeside g (bounds_of root) old new
