-- A map without the messages of some numbers.
use Rattle.std.specs.Prelude.{◌≡◌, ◌+◌, ◌-◌, ◌*◌, ◌≤◌, ◌==◌, ◌||◌, ℕ, Bool, false, List, [], ◌∷◌, length, map, Result, Ok, Err, if◌then◌else◌}
use Rattle.std.specs.List.{flat_map}
use Rattle.arch_base.specs.declared.ids.Form.{Form}
use Rattle.disk_model.specs.declared.name.FileKind.TheVariants as kind
use Rattle.disk_model.specs.declared.name.FileName.{FileName}
use Rattle.disk_model.specs.declared.refusal.WalkRefusal.{WalkRefusal}
use Rattle.disk_model.specs.declared.refusal.WalkRefusal.TheVariants.{DiskFault, Damaged, NoMemory}
use Rattle.disk_model.specs.Disk.{Content, Unchanged, bytes_of}
use Rattle.disk_model.specs.Sizes.{record_size}
use Rattle.root_change.specs.declared.plan.Target.TheVariants.{Anew}
use Rattle.root_change.specs.Rewriting.{Plan, IsPlan, IsPlanFrom, IsPlanWhole, plan_count, with_bytes, with_range, written_by}
use Rattle.root_change.specs.Texts.{Texts}
use Rattle.number_map.specs.declared.line.Record.{Record}
use Rattle.number_map.specs.Records.{record_bytes, no_epoch, zero_id}
use Rattle.number_map.specs.Walks.{BeginsWithRecords, LacksRecord}

-- A number is one of these.
abbrev pub is_among : List ℕ → ℕ → Bool
is_among [] n = false
is_among (m ∷ ms) n = m == n || is_among ms n

-- Numbers rise from this one on, up to another one.
abbrev pub RisesUpTo : ℕ → ℕ → List ℕ → Type 0
RisesUpTo low high [] = Unit {0}
RisesUpTo low high (n ∷ ns) = (low ≤ n) × (n ≤ high) × RisesUpTo (n + 1) high ns

module _ (form : Form) where
  -- The record of a number without a message.
  abbrev pub none_record : ℕ → Record
  none_record n = record { number = n; epoch = no_epoch; blob = zero_id form }

  -- A record, unless its number is one of these.
  abbrev pub record_without : List ℕ → Record → Record
  record_without gone line = if is_among gone line.number then none_record line.number else line

  -- Records, where these numbers have no message.
  abbrev pub records_without : List ℕ → List Record → List Record
  records_without gone lines = map (record_without gone) lines

  -- The bytes of these records.
  abbrev pub map_without : List ℕ → List Record → List ℕ
  map_without gone lines = flat_map record_bytes (records_without gone lines)

  -- The records after the first `done` ones up to that of a number were added to a plan, and then that of
  -- the number without its message.
  abbrev pub PushesGone : FileName → ℕ → ℕ → Plan → Plan → Type 0
  PushesGone file done number old new = new ≡ with_bytes (with_range old file (record_size form * done)
      (record_size form * (number - done - 1))) (record_bytes (none_record number))

  -- A plan is that of a map of so many records without the messages of some numbers, from the old file
  -- of the map: it writes these where that file starts with the records.
  pub record PlansMap (file : FileName) (count : ℕ) (gone : List ℕ) (plan : Plan) : Type 0 where
    pub kind : plan.kind ≡ kind.Map
    pub number : plan.number ≡ 0
    pub target : plan.target ≡ Anew
    pub valid : IsPlan plan
    pub count_is : plan_count plan ≡ record_size form * count
    pub from : IsPlanFrom file plan
    pub written : (texts : Texts) (lines : List Record) → length lines ≡ count
        → BeginsWithRecords form lines (texts file)
        → IsPlanWhole texts plan × (written_by texts plan ≡ map_without gone lines)

  -- The results of a rewriting: the map starts with records, and another file has them without the
  -- messages of some numbers, if it wasn't there; or the map is damaged, or memory ran out, and nothing
  -- was done; or nothing is told.
  abbrev pub RewritesMap : FileName → ℕ → FileName → List ℕ → Content → Content
      → Result Unit WalkRefusal → Type 0
  RewritesMap from count to gone k m (Ok _) = (lines : List Record) × (length lines ≡ count)
      × BeginsWithRecords form lines (bytes_of (k from).seen)
      × (bytes_of (k to).seen ≡ [] → bytes_of (m to).seen ≡ map_without gone lines)
  RewritesMap from count to gone k m (Err (Damaged at)) =
      LacksRecord form count at (bytes_of (k from).seen) × Unchanged k m
  RewritesMap from count to gone k m (Err DiskFault) = Unit {0}
  RewritesMap from count to gone k m (Err NoMemory) = Unchanged k m
