-- What is planned of an archive without the entries of a text.
use Rattle.std.specs.Prelude.{◌≡◌, ◌≢◌, ◌⊎◌, ◌+◌, ◌-◌, ◌<◌, ◌≤◌, ◌==◌, ℕ, Bool, true, false, ◌&&◌, ◌||◌, List, [], ◌∷◌, ◌++◌, length, take, get_or, slice_get, Option, Some, None, is_some, unwrap_or, Result, Ok, Err, if◌then◌else◌}
use Rattle.std.specs.List.{AllByRecursion, AllZip, list_any}
use Rattle.std.specs.Str.{bytes_eq}
use Rattle.arch_base.specs.declared.ids.ObjectId.{ObjectId}
use Rattle.arch_base.specs.declared.ids.Form.{Form}
use Rattle.arch_base.specs.Ids.{id_eq}
use Rattle.disk_model.specs.declared.name.FileKind.{FileKind}
use Rattle.disk_model.specs.declared.name.FileKind.TheVariants as kind
use Rattle.disk_model.specs.declared.name.FileName.{FileName}
use Rattle.disk_model.specs.declared.refusal.WalkRefusal.{WalkRefusal}
use Rattle.disk_model.specs.declared.refusal.WalkRefusal.TheVariants as walk
use Rattle.disk_model.specs.Disk.{Content, WhereTold}
use Rattle.disk_model.specs.Sizes.{epoch_count, greatest_epoch}
use Rattle.root_slots.specs.declared.root.Root.{Root}
use Rattle.root_slots.specs.Valid.{no_place}
use Rattle.root_change.specs.Parts.{texts_of}
use Rattle.root_change.specs.declared.plan.Target.TheVariants.{Anew, Behind}
use Rattle.root_change.specs.Rewriting.{Plan, AreApart, IsPartToPlan, IsPlan, IsPlanFrom, IsPlanWhole, IsRootAfter, SourceIsWithin, MayCarryAll, MapFits, file_by, no_plan, plan_count, plan_of, planned, rewritten, same_kind, with_bytes}
use Rattle.root_change.specs.declared.sources.Source.{Source}
use Rattle.root_change.specs.Texts.{Texts}
use Rattle.number_map.specs.declared.line.Record.{Record}
use Rattle.number_map.specs.Records.{record_bytes}
use Rattle.number_map.specs.Rewriting.{PlansMap, RisesUpTo}
use Rattle.git_objects.specs.Objects.{blob_id_of}
use Rattle.git_objects.specs.declared.entry_kind.EntryKind.{EntryKind}
use Rattle.git_objects.specs.declared.entry_kind.EntryKind.TheVariants.{Message, Deletion}
use Rattle.arch_model.specs.Archives.{Entry, Archive, in_epoch, is_message, messages, text_of, with_entry, without_text, without_entries}
use Rattle.arch_model.specs.Delivery.{last_epoch, new_epoch}
use Rattle.arch_model.specs.Epochs.{epoch_bytes, last_commit}
use Rattle.arch_model.specs.Validity.{IsArchive}
use Rattle.mail_reader.specs.Ids.{own_id}
use Rattle.mail_reader.specs.Content.{content_id_of}
use Rattle.epoch_file.specs.Entries.{EpochEntry}
use Rattle.epoch_file.specs.Lying.{EntryLiesIn, tree_end}
use Rattle.epoch_file.specs.Planning.{EndUpTo, FinishesPlan, FinishesIn, HasNext, IsMoved, IsOfEpoch, IsPlanned, IsPlannedIn, KeepsIn, KeepsNext, LeftOutIn, LeavesNext, Planned, reach, seen_after, texts_in}
use Rattle.epoch_file.specs.declared.entry.Seen.{Seen}
use Rattle.epoch_file.specs.declared.refusal.StoreRefusal.{StoreRefusal}
use Rattle.epoch_file.specs.declared.refusal.StoreRefusal.TheVariants.{DiskFault, NoMemory, Damaged}
use Rattle.store_finding.specs.declared.entries.StoredEntry.{StoredEntry}
use Rattle.store_planning.specs.declared.next.NextPlace.{NextPlace}
use Rattle.store_finding.specs.Damage.{named_length}
use Rattle.store_finding.specs.Extents.{AreNamedAfter, ComesAfter, LieFrom, length_planned}
use Rattle.store_finding.specs.Files.{epoch_file_of}
use Rattle.store_finding.specs.Recovery.{NamesArchive, bytes_in, parts_of}
use Rattle.store_finding.specs.Kept.{StoreState, IsDiskWith, IsStoreWith, in_file, stored_after, stored_at}
use Rattle.store_planning.specs.Dropping.{KeptOf, SeesNoDamage, without_blob}

-- Entries of an epoch as they are in its file.
abbrev pub in_files : List Entry → List EpochEntry
in_files [] = []
in_files (e ∷ es) = in_file e ∷ in_files es

-- The numbers of the messages among entries with a blob id, in order.
abbrev pub gone_numbers : List StoredEntry → ObjectId → List ℕ
gone_numbers [] blob = []
gone_numbers (e ∷ es) blob =
    if is_message e.seen.kind && id_eq blob e.seen.blob
    then e.number ∷ gone_numbers es blob else gone_numbers es blob

-- A message of the archive has the text.
abbrev pub IsMessageText : Archive → List ℕ → Type 0
IsMessageText a text = (n : ℕ) × (text_of (messages a.entries) n ≡ Some text)

-- Plans write the epochs of an archive without a text, and its map.
pub record PlansWithout (root : Root) (cache : List ℕ) (a : Archive) (text : List ℕ)
    (plans : List Plan) : Type 0 where
  pub parts : (kind_ : FileKind) (number : ℕ)
      → rewritten root plans (parts_of a cache) kind_ number
      ≡ parts_of (without_entries a text) [] kind_ number
  pub whole : (i : ℕ) (plan : Plan) → slice_get plans i ≡ Some plan
      → IsPlanWhole (texts_of root (parts_of a cache)) plan

-- What is planned may be carried out, whatever the disk holds: no part is planned twice, and the map is
-- written anew, with a record for each number below this one.
pub record IsReadyPlan (root : Root) (plans : List Plan) (next : ℕ) : Type 0 where
  pub plans_may : MayCarryAll root plans
  pub map : MapFits root plans next root.config.form
  pub map_plan : Plan
  pub map_is : plan_of plans kind.Map 0 ≡ Some map_plan
  pub map_anew : map_plan.target ≡ Anew

-- An entry of an epoch has a blob id.
abbrev pub loses : List StoredEntry → ObjectId → ℕ → Bool
loses entries blob epoch =
    list_any (λ (e : StoredEntry). id_eq blob e.seen.blob && e.epoch == epoch) entries

-- Just the epochs with an entry that has a blob id are planned.
abbrev pub PlansLost : List StoredEntry → ObjectId → List Plan → Type 0
PlansLost entries blob plans =
    (e : ℕ) → is_some (plan_of plans kind.Epoch e) ≡ loses entries blob e

-- Each of these parts is written anew.
abbrev pub AreAnew : List Plan → Type 0
AreAnew plans = (i : ℕ) (plan : Plan) → slice_get plans i ≡ Some plan → plan.target ≡ Anew

-- What is planned of the entries of a store without those with a blob id: what is kept of the others,
-- and what is written.
pub record PlansPurge (v : StoreState) (blob : ObjectId) (entries : List StoredEntry) (plans : List Plan)
    : Type 0 where
  pub kept : AllZip KeptOf (without_blob v.entries blob) entries
  pub ready : IsReadyPlan v.root plans v.root.next
  pub anew : AreAnew plans
  pub lost : PlansLost v.entries blob plans
  pub named : AreNamedAfter v.root plans entries

-- On a store's own disk, where a message has the text of the blob id, what is planned, and what is
-- kept of the other entries, is that of the archive without the text.
abbrev pub PlansOwn : StoreState → ObjectId → List StoredEntry → List Plan → Option Content → Type 0
PlansOwn v blob entries plans content = (a : Archive) (cache text : List ℕ)
    → IsStoreWith v cache a content → blob_id_of a.config.form text ≡ blob → IsMessageText a text
    → PlansWithout v.root cache a text plans
    × (entries ≡ stored_after a.config.form [] (without_text a.entries text))

-- Planning finds no damage on a store's own disk.
abbrev pub PlansUndamaged : {T : Type 0} → StoreState → Result T StoreRefusal → Option Content → Type 0
PlansUndamaged v result content = (a : Archive) (cache : List ℕ) → IsStoreWith v cache a content
    → SeesNoDamage result

-- The numbers of the messages with a text.
abbrev pub gone_of : List Entry → List ℕ → List ℕ
gone_of [] text = []
gone_of (e ∷ es) text = if is_message e.kind && bytes_eq text e.text then e.number ∷ gone_of es text
    else gone_of es text

-- What a planner holds: the plans of epochs that are closed, what is kept of the entries that stay, the
-- numbers of the messages that don't, the plan of the current epoch, and the form of the archive.
pub record Planning : Type 0 where
  pub plans : List Plan
  pub entries : List StoredEntry
  pub gone : List ℕ
  pub current : Option Planned
  pub form : Form

-- A planner of an archive of a form, before the first entry.
abbrev pub no_planning : Form → Planning
no_planning form = record { plans = []; entries = []; gone = []; current = None; form = form }

-- Each of these plans is valid.
abbrev pub AreValid : List Plan → Type 0
AreValid plans = (i : ℕ) (plan : Plan) → slice_get plans i ≡ Some plan → IsPlan plan

-- The plan of the current epoch is of a form.
abbrev pub HasForm : Form → Option Planned → Type 0
HasForm form None = Unit {0}
HasForm form (Some c) = c.form ≡ form

-- What always holds of a planner: its plans are valid, each is that of another part, the numbers rise
-- up to this one, and the current epoch has the planner's form.
pub record IsPlanning (top : ℕ) (p : Planning) : Type 0 where
  pub apart : AreApart p.plans
  pub valid : AreValid p.plans
  pub gone : RisesUpTo 1 top p.gone
  pub form : HasForm p.form p.current

-- The current epoch is none of those that are planned.
abbrev pub PlansApart : List Plan → Option Planned → Type 0
PlansApart plans None = Unit {0}
PlansApart plans (Some c) = plan_of plans kind.Epoch c.file.number ≡ None

-- A plan writes an epoch of a root anew, from ranges of the epoch's file.
pub record IsPlanIn (root : Root) (plan : Plan) : Type 0 where
  pub small : plan.number ≤ greatest_epoch
  pub of : IsOfEpoch (epoch_file_of root plan.number) (Some plan)

-- The current epoch is one of a root.
abbrev pub IsFileIn : Root → Option Planned → Type 0
IsFileIn root None = Unit {0}
IsFileIn root (Some c) = (e : ℕ) × (e ≤ greatest_epoch) × (c.file ≡ epoch_file_of root e)

-- The current epoch is this one, and loses an entry.
abbrev pub is_changed : Option Planned → ℕ → Bool
is_changed None epoch = false
is_changed (Some c) epoch = is_some c.changed && c.file.number == epoch

-- An epoch is to be written anew by what is planned so far.
abbrev pub is_anew : Planning → ℕ → Bool
is_anew p epoch = is_some (plan_of p.plans kind.Epoch epoch) || is_changed p.current epoch

-- One more entry of an epoch was left out, or kept. In the former case the epoch is to be written anew.
-- The others are as before.
abbrev pub ChangesNext : Planning → ℕ → Bool → Planning → Type 0
ChangesNext old number leaves new = (e : ℕ) → is_anew new e ≡ (is_anew old e || (leaves && number == e))

-- All epochs that are planned, and the current one, are those of a root, and so is the form.
pub record ArePlansIn (root : Root) (p : Planning) : Type 0 where
  pub each : (i : ℕ) (plan : Plan) → slice_get p.plans i ≡ Some plan → IsPlanIn root plan
  pub current : IsFileIn root p.current
  pub form : p.form ≡ root.config.form

-- A plan is one of a part, and its ranges are of the part's file by a root.
abbrev pub PlanIsFrom : Root → Plan → Type 0
PlanIsFrom root plan = IsPartToPlan plan.kind plan.number
    × IsPlanFrom (file_by root plan.kind plan.number) plan

-- Each of these plans is one of a part, with ranges of that part's file.
abbrev pub AreFrom : Root → List Plan → Type 0
AreFrom root plans = (i : ℕ) (plan : Plan) → slice_get plans i ≡ Some plan → PlanIsFrom root plan

-- The ranges of a plan lie in the bytes that count of their files by a root.
abbrev pub IsPlanWithin : Root → Plan → Type 0
IsPlanWithin root plan = (i : ℕ) (source : Source) → slice_get plan.sources i ≡ Some source
    → SourceIsWithin root source

-- The ranges of each of these plans lie in the bytes that count of their files.
abbrev pub AreWithin : Root → List Plan → Type 0
AreWithin root plans = (i : ℕ) (plan : Plan) → slice_get plans i ≡ Some plan
    → IsPlanWithin root plan

-- An entry that stays ends in the new files: in those of the epochs before the current one by their
-- plans, and in that of the current one where the entries reach that stay.
abbrev pub EndsInPlan : Root → List Plan → Planned → ℕ → ℕ → StoredEntry → Type 0
EndsInPlan root plans current epoch from e =
    ((e.epoch < epoch) × (tree_end e.seen ≤ length_planned root plans e.epoch))
    ⊎ ((e.epoch ≡ epoch) × (tree_end e.seen ≤ reach from current)
    × (is_some current.parent ≡ true))

-- The same of all, if there is a current epoch. Otherwise nothing is planned yet.
abbrev pub EndByCurrent : Root → Planning → ℕ → ℕ → Option Planned → Type 0
EndByCurrent root p epoch from None = (p.plans ≡ []) × (p.entries ≡ [])
EndByCurrent root p epoch from (Some current) = (current.file ≡ epoch_file_of root epoch)
    × IsPlannedIn (named_length root epoch) current
    × AllByRecursion (EndsInPlan root p.plans current epoch from) p.entries

-- The entries of a store up to an offset in an epoch are planned: no later epoch is, what is planned
-- takes ranges of the bytes that the root names, and the entries that stay lie in the new files.
pub record IsTakenUpTo (root : Root) (epoch from : ℕ) (p : Planning) : Type 0 where
  pub lie : LieFrom 0 0 p.entries
  pub ranges : (i : ℕ) (plan : Plan) → slice_get p.plans i ≡ Some plan
      → EndUpTo (named_length root plan.number) plan
  pub later : (x : ℕ) → epoch ≤ x → plan_of p.plans kind.Epoch x ≡ None
  pub inside : from ≤ named_length root epoch
  pub ends : EndByCurrent root p epoch from p.current

-- One more entry was taken, which lies in its epoch after those before it.
abbrev pub PlanTakes : Planning → FileName → StoredEntry → Planning → Type 0
PlanTakes old file e new = (root : Root) (epoch from : ℕ) → file ≡ epoch_file_of root e.epoch
    → ComesAfter epoch from e → EntryLiesIn e.seen.at (named_length root e.epoch) e.seen
    → IsTakenUpTo root epoch from old → IsTakenUpTo root e.epoch (tree_end e.seen) new

-- The entries of a store are planned up to some offset.
pub record IsTakenToOffset (root : Root) (p : Planning) : Type 0 where
  pub epoch : ℕ
  pub from : ℕ
  pub taken : IsTakenUpTo root epoch from p

-- So far the entries before these were taken, which lie after them in the bytes that the root names.
pub record IsTakenSo (root : Root) (rest : List StoredEntry) (p : Planning) : Type 0 where
  pub epoch : ℕ
  pub from : ℕ
  pub taken : IsTakenUpTo root epoch from p
  pub lie : LieFrom epoch from rest
  pub ends : AllByRecursion (λ (e : StoredEntry). tree_end e.seen ≤ named_length root e.epoch) rest

-- An entry with a blob id was dropped. Another one was kept.
abbrev pub KeepsBut : Bool → List StoredEntry → StoredEntry → List StoredEntry → Type 0
KeepsBut true old e new = new ≡ old
KeepsBut false old e new = (made : StoredEntry) × KeptOf e made × (new ≡ old ++ made ∷ [])

-- The current epoch is planned in a form, where these are its entries so far, and of them these stay.
abbrev pub IsCurrent : Form → Texts → Root → List Entry → List Entry → Option Planned → Type 0
IsCurrent form texts root es kept None = es ≡ []
IsCurrent form texts root es kept (Some c) = (c.file ≡ epoch_file_of root (last_epoch es))
    × IsPlanned texts (in_files (in_epoch es (last_epoch es)))
    (in_files (in_epoch kept (last_epoch es))) c × (c.form ≡ form)

-- Of the entries so far these stay, none of them in another epoch. Epochs before the current one are
-- planned whole, and none after it.
pub record IsKeptUpTo (texts : Texts) (root : Root) (a : Archive) (es kept : List Entry) (p : Planning)
    : Type 0 where
  pub entries : p.entries ≡ stored_after a.config.form [] kept
  pub among : (e : ℕ) → in_epoch es e ≡ [] → in_epoch kept e ≡ []
  pub before : (e : ℕ) → e < last_epoch es → planned texts (plan_of p.plans kind.Epoch e) (bytes_in a e)
      ≡ epoch_bytes a.config.form (in_epoch kept e)
  pub after : (e : ℕ) → last_epoch es ≤ e → plan_of p.plans kind.Epoch e ≡ None
  pub map : (n : ℕ) → plan_of p.plans kind.Map n ≡ None
  pub whole : (i : ℕ) (plan : Plan) → slice_get p.plans i ≡ Some plan → IsPlanWhole texts plan
  pub current : IsCurrent a.config.form texts root es kept p.current
  pub form : p.form ≡ a.config.form

-- The entries that stay after one more, which stays, too. Nothing is damaged.
abbrev pub StaysPlanned : Texts → Root → Archive → List Entry → List Entry → Entry → Planning
    → Result Unit StoreRefusal → Type 0
StaysPlanned texts root a es kept e new (Ok _) = IsKeptUpTo texts root a (es ++ e ∷ []) (kept ++ e ∷ []) new
StaysPlanned texts root a es kept e new (Err (Damaged file at)) = ⊥
StaysPlanned texts root a es kept e new (Err _) = Unit {0}

-- A file and what is kept of an entry are those of the next entry of an archive on its disk, and of
-- those before it some stay.
pub record ComesNext (file : FileName) (stored : StoredEntry) (k : Content) (v : StoreState)
    (cache : List ℕ) (a : Archive) (es rest kept : List Entry) (e : Entry) (p : Planning) : Type 0 where
  pub own : IsDiskWith v cache a k
  pub is : a.entries ≡ es ++ e ∷ rest
  pub stored_is : stored ≡ stored_at a.config.form es e
  pub file_is : file ≡ epoch_file_of v.root e.epoch
  pub up : IsKeptUpTo (texts_in k) v.root a es kept p

-- A planner takes the next entry of the archive of a disk, which stays.
abbrev pub KeepsStored : Planning → FileName → StoredEntry → Option Content → Planning
    → Result Unit StoreRefusal → Type 0
KeepsStored old file stored content new result = WhereTold (λ (k : Content).
    (v : StoreState) (cache : List ℕ) (a : Archive) (es rest kept : List Entry) (e : Entry)
    → ComesNext file stored k v cache a es rest kept e old
    → StaysPlanned (texts_in k) v.root a es kept e new result) content

-- A planner takes the next entry of the archive of a disk, which is left out.
abbrev pub DropsStored : Planning → FileName → StoredEntry → Planning → Type 0
DropsStored old file stored new = (k : Content) (v : StoreState) (cache : List ℕ) (a : Archive)
    (es rest kept : List Entry) (e : Entry) → ComesNext file stored k v cache a es rest kept e old
    → IsKeptUpTo (texts_in k) v.root a (es ++ e ∷ []) kept new

-- The entries of an archive up to these are planned, where a text is left out: those without it stay,
-- and the numbers of the messages with it are kept.
abbrev pub IsPlannedUpTo : Texts → Root → Archive → List Entry → List ℕ → Planning → Type 0
IsPlannedUpTo texts root a es text p = IsKeptUpTo texts root a es (without_text es text) p
    × (p.gone ≡ gone_of es text)

-- Of the entries of an archive those with a blob id are those with a text.
abbrev pub PicksText : Archive → ObjectId → List ℕ → Type 0
PicksText a blob text = AllByRecursion (λ (e : Entry).
    id_eq blob (blob_id_of a.config.form e.text) ≡ bytes_eq text e.text) a.entries

-- After a call the entries of an archive up to this one are planned, where a text is left out. Nothing
-- is damaged.
abbrev pub GivesNext : Texts → Root → Archive → List Entry → Entry → List ℕ → Planning
    → Result Unit StoreRefusal → Type 0
GivesNext texts root a es e text new (Ok _) = IsPlannedUpTo texts root a (es ++ e ∷ []) text new
GivesNext texts root a es e text new (Err (Damaged file at)) = ⊥
GivesNext texts root a es e text new (Err _) = Unit {0}

-- A planner takes the next entry of the archive of a disk, whatever text the blob id picks to be left
-- out.
abbrev pub PlansNext : Planning → FileName → StoredEntry → ObjectId → Option Content → Planning
    → Result Unit StoreRefusal → Type 0
PlansNext old file stored blob content new result = WhereTold (λ (k : Content).
    (v : StoreState) (cache : List ℕ) (a : Archive) (es rest : List Entry) (e : Entry) (text : List ℕ)
    → IsDiskWith v cache a k → a.entries ≡ es ++ e ∷ rest → stored ≡ stored_at a.config.form es e
    → file ≡ epoch_file_of v.root e.epoch → PicksText a blob text
    → IsPlannedUpTo (texts_in k) v.root a es text old
    → GivesNext (texts_in k) v.root a es e text new result) content

-- The result is the index of the plan of a part, or there is none.
abbrev pub IsPlanIndex : List Plan → FileKind → ℕ → Option ℕ → Type 0
IsPlanIndex plans kind_ number None = plan_of plans kind_ number ≡ None
IsPlanIndex plans kind_ number (Some i) =
    (plan : Plan) × (slice_get plans i ≡ Some plan) × (plan_of plans kind_ number ≡ Some plan)

-- The error of a file's reading.
abbrev pub refusal_in : FileName → WalkRefusal → StoreRefusal
refusal_in file walk.DiskFault = DiskFault
refusal_in file walk.NoMemory = NoMemory
refusal_in file (walk.Damaged at) = Damaged file at

-- The plans, where an epoch has these bytes more: after what is planned of it, or else after its own.
abbrev pub plans_with : List Plan → ℕ → List ℕ → List Plan
plans_with [] epoch bytes = with_bytes (no_plan kind.Epoch epoch Behind) bytes ∷ []
plans_with (plan ∷ plans) epoch bytes =
    if same_kind plan.kind kind.Epoch && plan.number == epoch then with_bytes plan bytes ∷ plans
    else plan ∷ plans_with plans epoch bytes

-- A plan was added.
abbrev pub Pushes : Planning → Plan → Planning → Type 0
Pushes old plan new = (new ≡ record {
  plans = old.plans ++ plan ∷ [];
  entries = old.entries;
  gone = old.gone;
  current = old.current;
  form = old.form;
}) × (plan_of old.plans plan.kind plan.number ≡ None)

-- The plan of an epoch whose entries have all been taken was added, if it loses one.
abbrev pub ClosesAs : Planning → Option Plan → Planning → Type 0
ClosesAs old None new = new ≡ old
ClosesAs old (Some plan) new = Pushes old plan new

-- The current epoch is closed: its file is planned whole, and the plan was added if there is one.
abbrev pub ClosesEpoch : Planning → Planned → Planning → Type 0
ClosesEpoch old epoch new = (finished : Option Plan) × FinishesPlan epoch finished
    × IsOfEpoch epoch.file finished × ClosesAs old finished new
    × (is_some finished ≡ is_some epoch.changed)
    × ((most : ℕ) → IsPlannedIn most epoch → FinishesIn most epoch finished)

-- A planner without a current epoch.
abbrev pub without_current : Planning → Planning
without_current p = record {
  plans = p.plans;
  entries = p.entries;
  gone = p.gone;
  current = None;
  form = p.form;
}

-- The plan of an epoch of a form before its first entry.
abbrev pub epoch_start : Form → FileName → Planned
epoch_start form file =
    record { file = file; changed = None; end_ = 8; parent = None; form = form }

-- The plan of a file is the current one, or a new one, for which the current one is closed.
abbrev pub OpensBy : Planning → FileName → Option Planned → Planning → Planned → Type 0
OpensBy old file None new plan =
    (new ≡ without_current old) × (plan ≡ epoch_start old.form file)
OpensBy old file (Some c) new plan =
    ((c.file ≡ file) × (plan ≡ c) × (new ≡ without_current old))
    ⊎ ((c.file ≢ file) × (plan ≡ epoch_start old.form file) × ClosesEpoch (without_current old) c new)

-- The same by the current one of a planner.
abbrev pub OpensPlan : Planning → FileName → Planning → Planned → Type 0
OpensPlan old file new plan = OpensBy old file old.current new plan

-- The number of a message that is left out is kept, that of a deletion isn't.
abbrev pub gone_with : EntryKind → List ℕ → ℕ → List ℕ
gone_with Message gone number = gone ++ number ∷ []
gone_with Deletion gone number = gone

-- A planner that has left out an entry: the number of a message is kept.
abbrev pub with_gone : Planning → StoredEntry → Planning
with_gone p e = record {
  plans = p.plans;
  entries = p.entries;
  gone = gone_with e.seen.kind p.gone e.number;
  current = p.current;
  form = p.form;
}

-- A planner with other entries and numbers, and this as the current epoch.
abbrev pub with_entries : Planning → List StoredEntry → List ℕ → Planned → Planning
with_entries p entries gone plan = record {
  plans = p.plans;
  entries = entries;
  gone = gone;
  current = Some plan;
  form = p.form;
}

-- An entry was left out of the plan of the current epoch, which is to be written anew.
abbrev pub LeavesOut : Planning → Planned → StoredEntry → Planning → Type 0
LeavesOut old plan e new = (after : Planned) × LeavesNext plan e.seen after
    × (after.file ≡ plan.file)
    × (new ≡ with_entries old old.entries (gone_with e.seen.kind old.gone e.number) after)
    × (is_some after.changed ≡ true)
    × ((from most : ℕ) → EntryLiesIn from most e.seen → IsPlannedIn most plan
    → LeftOutIn from most plan e.seen after) × (after.form ≡ plan.form)

-- An entry as it is kept in the new file.
abbrev pub kept_anew : StoredEntry → Seen → StoredEntry
kept_anew e seen = record { number = e.number; epoch = e.epoch; seen = seen }

-- An entry was kept in the plan of the current epoch, at its offset in the new file and with its commit
-- there.
pub record PlansEntry (old : Planning) (plan : Planned) (e : StoredEntry)
    (content : Option Content) (new : Planning) : Type 0 where
  pub seen : Seen
  pub after : Planned
  pub kept : WhereTold (KeepsNext plan e.seen after (Ok seen)) content
  pub moved : (at : ℕ) × (commit : ObjectId) × IsMoved e.seen at commit seen
  pub file : after.file ≡ plan.file
  pub form : after.form ≡ plan.form
  pub going : is_some after.changed ≡ is_some plan.changed
  pub some : is_some after.parent ≡ true
  pub lies : (from most : ℕ) → EntryLiesIn from most e.seen → IsPlannedIn most plan
      → KeepsIn from most plan e.seen after seen
  pub new_is : new ≡ with_entries old (old.entries ++ kept_anew e seen ∷ []) old.gone after

-- The refusal is not that a file is damaged.
abbrev pub IsNoDamage : WalkRefusal → Type 0
IsNoDamage (walk.Damaged at) = ⊥
IsNoDamage _ = Unit {0}

-- An entry was refused: where the file has it, nothing is damaged.
abbrev pub RefusesPlanned : Planned → StoredEntry → Option Content → WalkRefusal → Type 0
RefusesPlanned plan e content refusal = WhereTold (λ (k : Content).
    (es kept : List EpochEntry) (next : EpochEntry) → IsPlanned (texts_in k) es kept plan
    → HasNext plan.form (texts_in k) plan.file es next → e.seen ≡ seen_after plan.form es next
    → IsNoDamage refusal) content

-- The current epoch is closed, if there is one.
abbrev pub ClosesLast : Planning → Option Planned → Planning → Type 0
ClosesLast old None mid = mid ≡ old
ClosesLast old (Some c) mid = ClosesEpoch (without_current old) c mid

-- The current epoch is closed, and the plan of the map without the messages that are left out was
-- added.
abbrev pub FinishesPlans : Planning → FileName → ℕ → Planning → Type 0
FinishesPlans old map count new = (mid : Planning) × ClosesLast old old.current mid
    × ((plan : Plan) × PlansMap old.form map count mid.gone plan × Pushes mid plan new)

-- So many entries of a store are planned, whatever archive its disk holds.
abbrev pub PlansFirst : StoreState → ObjectId → ℕ → Planning → Content → Type 0
PlansFirst v blob n p k = (cache : List ℕ) (a : Archive) (text : List ℕ) → IsDiskWith v cache a k
    → PicksText a blob text → IsPlannedUpTo (texts_in k) v.root a (take n a.entries) text p

-- The length of a part after its plan, or as before without one.
abbrev pub length_by : ℕ → Option Plan → ℕ
length_by before None = before
length_by before (Some plan) = plan_count plan

-- The length of an epoch of a root after plans.
abbrev pub length_after : Root → List Plan → ℕ → ℕ
length_after root plans epoch =
    length_by (get_or root.epochs epoch no_place).length (plan_of plans kind.Epoch epoch)

-- Where the next entry is written after what is planned of an archive.
abbrev pub IsPlaceAfter : Root → Planning → NextPlace → Type 0
IsPlaceAfter root p place = (b : Archive) → IsArchive b → root.config ≡ b.config
    → p.entries ≡ stored_after b.config.form [] b.entries
    → ((e : ℕ) → e < epoch_count → length_after root p.plans e ≡ length (bytes_in b e))
    → (place.epoch ≡ new_epoch b) × (place.length ≡ length (bytes_in b place.epoch))
    × (place.parent ≡ last_commit b.config.form None (in_epoch b.entries place.epoch))

-- Plans write the parts of another archive with this next number, and this is what is kept of its
-- entries.
pub record PlansArchive (root : Root) (cache : List ℕ) (a b : Archive) (p : Planning) (next : ℕ)
    : Type 0 where
  pub valid : IsArchive b
  pub config : b.config ≡ a.config
  pub next_is : b.next ≡ next
  pub entries : p.entries ≡ stored_after b.config.form [] b.entries
  pub parts : (kind_ : FileKind) (number : ℕ)
      → rewritten root p.plans (parts_of a cache) kind_ number ≡ parts_of b [] kind_ number
  pub whole : (i : ℕ) (plan : Plan) → slice_get p.plans i ≡ Some plan
      → IsPlanWhole (texts_of root (parts_of a cache)) plan

-- One more message is planned: its epoch is written with some bytes more, in a new file if it was planned
-- before, and otherwise after its own bytes. On the archive that is planned so far, it is the one with
-- the message.
pub record PlansEdit (v : StoreState) (old : Planning) (text : List ℕ) (moment : ℕ) (new : Planning)
    : Type 0 where
  pub entry : StoredEntry
  pub entries : new.entries ≡ old.entries ++ entry ∷ []
  pub kind_is : entry.seen.kind ≡ Message
  pub number : entry.number ≡ v.root.next
  pub id : own_id text ≡ Some entry.seen.id
  pub blob : entry.seen.blob ≡ blob_id_of v.root.config.form text
  pub content : entry.seen.content ≡ content_id_of text
  pub small : entry.epoch ≤ greatest_epoch
  pub piece : List ℕ
  pub some : 0 < length piece
  pub own : plan_of new.plans kind.Epoch entry.epoch
      ≡ Some (with_bytes (unwrap_or (plan_of old.plans kind.Epoch entry.epoch)
      (no_plan kind.Epoch entry.epoch Behind)) piece)
  pub others : (e : ℕ) → e ≢ entry.epoch
      → plan_of new.plans kind.Epoch e ≡ plan_of old.plans kind.Epoch e
  pub ready : IsReadyPlan v.root old.plans v.root.next → IsReadyPlan v.root new.plans (v.root.next + 1)
  pub named : AreAnew old.plans → AreNamedAfter v.root old.plans old.entries
      → AreNamedAfter v.root new.plans new.entries
  pub archive : (cache : List ℕ) (a b : Archive) → PlansArchive v.root cache a b old v.root.next
      → NamesArchive v.root a → AreAnew old.plans → IsArchive (with_entry b (new_epoch b) text moment)
      → PlansArchive v.root cache a (with_entry b (new_epoch b) text moment) new (v.root.next + 1)

-- The entries that are kept are those that were planned, by the root of the plans.
pub record KeepsPlanned (old : StoreState) (p : Planning) (next : ℕ) (new : StoreState) : Type 0 where
  pub entries : new.entries ≡ p.entries
  pub root : IsRootAfter old.root p.plans next old.root.config.form new.root
  pub slot : new.slot ≡ 1 - old.slot

-- The plans, where that of the map has these bytes more.
abbrev pub with_record : List Plan → List ℕ → List Plan
with_record [] bytes = []
with_record (plan ∷ plans) bytes =
    if same_kind plan.kind kind.Map && plan.number == 0 then with_bytes plan bytes ∷ plans
    else plan ∷ with_record plans bytes

-- A record was added to the plan of the map, which is there.
abbrev pub AppendsRecord : Planning → Record → Planning → Type 0
AppendsRecord old line new = (new ≡ record {
  plans = with_record old.plans (record_bytes line);
  entries = old.entries;
  gone = old.gone;
  current = old.current;
  form = old.form;
}) × ((plan : Plan) × (plan_of old.plans kind.Map 0 ≡ Some plan))
