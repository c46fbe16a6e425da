-- Private: what carrying out plans leaves in the files, before the root is replaced.
use Rattle.std.specs.Prelude.{◌≡◌, ◌≢◌, ℕ, ◌+◌, ◌<◌, ◌≤◌, ◌^◌, List, [], ◌++◌, length, get_or, slice_get, Option, Some}
use Rattle.disk_model.specs.declared.name.FileKind.TheVariants as kind
use Rattle.disk_model.specs.declared.name.FileName.{FileName}
use Rattle.disk_model.specs.Disk.{Content, bytes_of}
use Rattle.root_slots.specs.declared.root.Root.{Root}
use Rattle.root_slots.specs.RootName.{root_name}
use Rattle.root_slots.specs.Valid.{no_place}
use Rattle.root_change.specs.Gathering.{gathered, AreSources, HasSources}
use Rattle.root_change.specs.Names.{named_end}
use Rattle.root_change.specs.Rewriting.{Plan, plan_count, file_by, place_by, map_by}

-- A plan may be written to a file, after what counts there by a root: it is neither the root file nor
-- a cache, nor does the plan take bytes from it, and it stays short. A plan without a byte writes
-- nothing.
pub record MayWrite (root : Root) (plan : Plan) (to : FileName) : Type 0 where
  pub other : to ≢ root_name
  pub no_cache : to.kind ≢ kind.Cache
  pub sources : 0 < plan_count plan → AreSources to plan.sources
  pub short : 0 < plan_count plan → named_end root to + plan_count plan < 2 ^ 63

-- Each plan may be written to the file of its part by the new root.
abbrev pub MayWriteAll : Root → Root → List Plan → Type 0
MayWriteAll old new plans = (i : ℕ) (plan : Plan) → slice_get plans i ≡ Some plan
    → MayWrite old plan (file_by new plan.kind plan.number)

-- The bytes of a plan's sources were added to a file, after what counts there by a root.
pub record WritesSources (root : Root) (plan : Plan) (to : FileName) (k m : Content) : Type 0 where
  pub there : length (bytes_of (k to).seen) ≡ named_end root to → bytes_of (m to).seen
      ≡ bytes_of (k to).seen ++ gathered plan.bytes k plan.sources
  pub reaches : named_end root to + plan_count plan ≤ length (bytes_of (m to).seen)
  pub alone : gathered plan.bytes k plan.sources ≡ [] → (m to).seen ≡ (k to).seen
  pub full : length (gathered plan.bytes k plan.sources) ≡ plan_count plan

-- The same, and no other file reads otherwise.
pub record WritesAlone (root : Root) (plan : Plan) (to : FileName) (k m : Content) : Type 0 where
  pub writes : WritesSources root plan to k m
  pub others : (name : FileName) → name ≢ to → (m name).seen ≡ (k name).seen

-- Plans were carried out: to the file of each one's part by the new root the bytes of its sources
-- were added, as they read before. Each other file reads as before.
pub record WritesPlans (old new : Root) (plans : List Plan) (k m : Content) : Type 0 where
  pub each : (i : ℕ) (plan : Plan) → slice_get plans i ≡ Some plan
      → WritesSources old plan (file_by new plan.kind plan.number) k m
  pub others : (name : FileName) → ((i : ℕ) (plan : Plan) → slice_get plans i ≡ Some plan
      → name ≢ file_by new plan.kind plan.number) → (m name).seen ≡ (k name).seen

-- Each source of a plan is whole.
abbrev pub HasPlan : Option Content → Plan → Type 0
HasPlan content plan = HasSources plan.bytes content plan.sources

-- The `Place` of a plan's part is set, and all others stay.
pub record SetsPlace (old : Root) (plan : Plan) (next : ℕ) (new : Root) : Type 0 where
  pub config : new.config ≡ old.config
  pub sequence : new.sequence ≡ old.sequence
  pub number : new.next ≡ old.next
  pub cache : new.cache ≡ old.cache
  pub map : plan.kind ≡ kind.Map → new.map ≡ map_by next plan.target old.map (plan_count plan)
  pub map_stays : plan.kind ≢ kind.Map → new.map ≡ old.map
  pub here : plan.kind ≡ kind.Epoch → get_or new.epochs plan.number no_place
      ≡ place_by next plan.target (get_or old.epochs plan.number no_place) (plan_count plan)
  pub stays : (e : ℕ) → (plan.kind ≡ kind.Epoch → e ≢ plan.number)
      → get_or new.epochs e no_place ≡ get_or old.epochs e no_place
  pub count : length new.epochs ≡ length old.epochs
