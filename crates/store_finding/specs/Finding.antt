-- The result of reading an archive's files when it is opened: what is kept of the archive, that
-- there is none, or the first offset at which the files that the root names aren't in their form.
use Rattle.std.specs.Prelude.{◌≡◌, ◌⊎◌, ◌+◌, ◌-◌, ◌<◌, ℕ, List, length, Result, Ok, Err}
use Rattle.disk_model.specs.declared.name.FileName.{FileName}
use Rattle.disk_model.specs.Disk.{Files, bytes_of}
use Rattle.disk_model.specs.Sizes.{epoch_count}
use Rattle.arch_model.specs.declared.opening.OpenRefusal.{OpenRefusal}
use Rattle.arch_model.specs.declared.opening.OpenRefusal.TheVariants.{NoArchive, Damaged}
use Rattle.number_map.specs.declared.line.Record.{Record}
use Rattle.number_map.specs.Walks.{BeginsWithRecords}
use Rattle.number_map.specs.Walks as map_walks
use Rattle.epoch_file.specs.declared.entry.Seen.{Seen}
use Rattle.epoch_file.specs.Walking.{IsEpoch, IsDamagedEpochAt}
use Rattle.root_slots.specs.declared.root.Root.{Root}
use Rattle.root_slots.specs.declared.slot.Slot.{Slot}
use Rattle.root_slots.specs.RootName.{root_name}
use Rattle.root_slots.specs.Each.{IfThere}
use Rattle.root_slots.specs.Slots.{slot_number, Current, IsShutFile}
use Rattle.root_slots.specs.Slots as slots
use Rattle.root_slots.specs.Spelling.{spelling}
use Rattle.root_slots.specs.Valid.{IsRoot, RootFits}
use Rattle.store_finding.specs.declared.entries.StoredEntry.{StoredEntry}
use Rattle.store_finding.specs.declared.finding.Found.{Found}
use Rattle.store_finding.specs.Files.{map_file_of, epoch_file_of}
use Rattle.store_finding.specs.Damage.{named_length, IsFirstDamage}
use Rattle.store_finding.specs.Joined.{JoinedEntries}
use Rattle.store_finding.specs.Openings.{IsReadUpTo, AreRead}

-- A root is the current one of files, in this slot.
pub record IsCurrentRoot (root : Root) (slot : ℕ) (files : Files) : Type 0 where
  pub in_range : slot < 2
  pub current : IfThere (Current slot (spelling root)) (files root_name)
  pub is_root : IsRoot root
  pub fits : RootFits root

-- The map that a root names starts with the records of all numbers below the next one.
pub record HasRecords (root : Root) (files : Files) (rs : List Record) : Type 0 where
  pub begins : BeginsWithRecords root.config.form rs (bytes_of (files (map_file_of root)))
  pub count : length rs ≡ root.next - 1

-- What was found is what the files stand for: their current root and its slot, and the entries of
-- all epochs without their texts.
pub record IsFoundIn (files : Files) (found : Found) : Type 0 where
  pub records : List Record
  pub root : IsCurrentRoot found.root (slot_number found.slot) files
  pub has : HasRecords found.root files records
  pub read : AreRead found.root files records found.entries.items

-- The body of the current slot spells no root.
pub record IsDamagedRoot (files : Files) (file : FileName) (at : ℕ) : Type 0 where
  pub file_is : file ≡ root_name
  pub damaged : slots.SpellsNoRoot at (bytes_of (files root_name))

-- The map that the current root names is damaged.
pub record IsDamagedMap (files : Files) (file : FileName) (at : ℕ) : Type 0 where
  pub root : Root
  pub slot : ℕ
  pub current : IsCurrentRoot root slot files
  pub file_is : file ≡ map_file_of root
  pub damaged : map_walks.LacksRecord root.config.form (root.next - 1) at
      (bytes_of (files (map_file_of root)))

-- The map that the current root names is whole, and an epoch is the first one that is damaged.
pub record IsDamagedEpoch (files : Files) (file : FileName) (at : ℕ) : Type 0 where
  pub root : Root
  pub slot : ℕ
  pub records : List Record
  pub epoch : ℕ
  pub current : IsCurrentRoot root slot files
  pub has : HasRecords root files records
  pub file_is : file ≡ epoch_file_of root epoch
  pub first : IsFirstDamage root files records epoch at

-- A file is the first one that is damaged, at this offset.
abbrev pub IsDamagedFile : Files → FileName → ℕ → Type 0
IsDamagedFile files file at = IsDamagedRoot files file at
    ⊎ (IsDamagedMap files file at ⊎ IsDamagedEpoch files file at)

-- The results of reading files.
abbrev pub FindsStore : Files → Result Found OpenRefusal → Type 0
FindsStore files (Ok found) = IsFoundIn files found
FindsStore files (Err NoArchive) = IsShutFile (files root_name)
FindsStore files (Err (Damaged file at)) = IsDamagedFile files file at
FindsStore files (Err _) = Unit {0}

-- The current root of files and its slot, or why there is none.
abbrev pub FindsRoot : Files → Result (Slot × Root) OpenRefusal → Type 0
FindsRoot files (Ok found) = IsCurrentRoot found.1 (slot_number found.0) files
FindsRoot files (Err NoArchive) = IsShutFile (files root_name)
FindsRoot files (Err (Damaged file at)) = IsDamagedRoot files file at
FindsRoot files (Err _) = Unit {0}

-- The records of the map that a root names, or where it is damaged.
abbrev pub FindsRecords : Root → Files → Result (List Record) OpenRefusal → Type 0
FindsRecords root files (Ok rs) = HasRecords root files rs
FindsRecords root files (Err NoArchive) = ⊥
FindsRecords root files (Err (Damaged file at)) = (file ≡ map_file_of root)
    × map_walks.LacksRecord root.config.form (root.next - 1) at (bytes_of (files (map_file_of root)))
FindsRecords root files (Err _) = Unit {0}

-- A file is that of an epoch, and it is the first one that is damaged.
abbrev pub IsEpochDamage : Root → Files → List Record → FileName → ℕ → Type 0
IsEpochDamage root files rs file at = (epoch : ℕ) × (file ≡ epoch_file_of root epoch)
    × IsFirstDamage root files rs epoch at

-- Why the epochs of a root are not read.
abbrev pub StopsBy : Root → Files → List Record → OpenRefusal → Type 0
StopsBy root files rs NoArchive = ⊥
StopsBy root files rs (Damaged file at) = IsEpochDamage root files rs file at
StopsBy root files rs _ = Unit {0}

-- The epochs below one are read, or why not.
abbrev pub ReadsEpochsUpTo : Root → Files → List Record → ℕ → Result JoinedEntries OpenRefusal → Type 0
ReadsEpochsUpTo root files rs epoch (Ok joined) = IsReadUpTo root files rs epoch joined
ReadsEpochsUpTo root files rs epoch (Err refusal) = StopsBy root files rs refusal

-- One more epoch is read, or why not, whatever was read before.
abbrev pub ReadsEpoch : Root → ℕ → JoinedEntries → Result JoinedEntries OpenRefusal → Files → Type 0
ReadsEpoch root epoch old result files = (rs : List Record) → RootFits root
    → IsReadUpTo root files rs epoch old → ReadsEpochsUpTo root files rs (epoch + 1) result

-- The same if the entries of its file are known.
abbrev pub ReadsSeen : Root → ℕ → JoinedEntries → List Seen → Result JoinedEntries OpenRefusal
    → Files → Type 0
ReadsSeen root epoch old seen result files =
    (rs : List Record) → RootFits root → IsReadUpTo root files rs epoch old
    → IsEpoch root.config.form (named_length root epoch) (bytes_of (files (epoch_file_of root epoch))) seen
    → ReadsEpochsUpTo root files rs (epoch + 1) result

-- Why an epoch isn't read whose file is no epoch from an offset on, whatever was read before.
abbrev pub StopsEpoch : Root → ℕ → JoinedEntries → ℕ → OpenRefusal → Files → Type 0
StopsEpoch root epoch old offset refusal files =
    (rs : List Record) → RootFits root → 0 < named_length root epoch
    → IsReadUpTo root files rs epoch old
    → IsDamagedEpochAt root.config.form (named_length root epoch)
    (bytes_of (files (epoch_file_of root epoch))) offset
    → StopsBy root files rs refusal

-- The same if the entries before that offset are known.
abbrev pub StopsSeen : Root → ℕ → JoinedEntries → ℕ → List Seen → OpenRefusal → Files → Type 0
StopsSeen root epoch old offset seen refusal files =
    (rs : List Record) → RootFits root → IsReadUpTo root files rs epoch old
    → IsDamagedEpochAt root.config.form (named_length root epoch)
    (bytes_of (files (epoch_file_of root epoch))) offset
    → IsEpoch root.config.form offset (bytes_of (files (epoch_file_of root epoch))) seen
    → StopsBy root files rs refusal

-- All epochs are read, or why not, if none was read before.
abbrev pub ReadsEach : Root → JoinedEntries → Result JoinedEntries OpenRefusal → Files → Type 0
ReadsEach root old result files = (rs : List Record) → RootFits root
    → IsReadUpTo root files rs 0 old → ReadsEpochsUpTo root files rs epoch_count result

-- What is kept of the entries of all epochs, or why they are not read.
abbrev pub KeepsAll : Root → Files → List Record → Result (List StoredEntry) OpenRefusal → Type 0
KeepsAll root files rs (Ok kept) = AreRead root files rs kept
KeepsAll root files rs (Err refusal) = StopsBy root files rs refusal

-- The same if the epochs are read.
abbrev pub EndsWith : Root → JoinedEntries → Result (List StoredEntry) OpenRefusal → Type 0
EndsWith root joined result = (rs : List Record) (files : Files)
    → IsReadUpTo root files rs epoch_count joined → KeepsAll root files rs result

-- The same if the records of the map are these.
abbrev pub KeepsBy : Root → List Record → Result (List StoredEntry) OpenRefusal → Files → Type 0
KeepsBy root rs result files = RootFits root → HasRecords root files rs
    → KeepsAll root files rs result

-- The map is whole, and what is kept of the entries of all epochs.
pub record HasEntries (root : Root) (files : Files) (kept : List StoredEntry) : Type 0 where
  pub records : List Record
  pub has : HasRecords root files records
  pub read : AreRead root files records kept

-- The map is whole, and an epoch isn't.
pub record LacksEntries (root : Root) (files : Files) (file : FileName) (at : ℕ) : Type 0 where
  pub records : List Record
  pub has : HasRecords root files records
  pub damage : IsEpochDamage root files records file at

-- The results of reading the map and the epochs that a root names.
abbrev pub FindsEntries : Root → Files → Result (List StoredEntry) OpenRefusal → Type 0
FindsEntries root files (Ok kept) = HasEntries root files kept
FindsEntries root files (Err NoArchive) = ⊥
FindsEntries root files (Err (Damaged file at)) = ((file ≡ map_file_of root)
    × map_walks.LacksRecord root.config.form (root.next - 1) at (bytes_of (files (map_file_of root))))
    ⊎ LacksEntries root files file at
FindsEntries root files (Err _) = Unit {0}
