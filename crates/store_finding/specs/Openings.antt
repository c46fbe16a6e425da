-- What is found when an archive is opened is what its files stand for.
use Rattle.std.specs.Prelude.{◌≡◌, ◌-◌, ℕ, List, [], length, take}
use Rattle.disk_model.specs.Disk.{Files, bytes_of}
use Rattle.arch_model.specs.Archives.{Entry, Archive}
use Rattle.number_map.specs.declared.line.Record.{Record}
use Rattle.number_map.specs.Walks.{BeginsWithRecords, LacksRecord}
use Rattle.root_slots.specs.declared.root.Root.{Root}
use Rattle.root_slots.specs.RootName.{root_name}
use Rattle.root_slots.specs.Slots.{HasRoot}
use Rattle.root_slots.specs.Each.{IfThere}
use Rattle.root_slots.specs.Spelling.{spelling}
use Rattle.root_slots.specs.Valid.{IsRoot, RootFits}
use Rattle.store_finding.specs.Files.{map_file_of, cache_file_of}
use Rattle.store_finding.specs.Recovery.{records_of, RecoversArchiveBy}
use Rattle.store_finding.specs.declared.entries.StoredEntry.{StoredEntry}
use Rattle.store_finding.specs.Kept.{stored_after}
use Rattle.store_finding.specs.Damage.{AreWhole, AreOpened, IsFirstDamage}
use Rattle.store_finding.specs.Joined.{JoinedEntries, HoldsJoined}

-- The archive with a root's settings and next number, and with these entries.
abbrev pub archive_of : Root → List Entry → Archive
archive_of root entries = record { config = root.config; entries = entries; next = root.next }

-- A root is the current one of files, and names the records of their map.
pub record HasMap (root : Root) (files : Files) (rs : List Record) : Type 0 where
  pub is_root : IsRoot root
  pub fits : RootFits root
  pub current : IfThere (HasRoot (spelling root)) (files root_name)
  pub count : length rs ≡ root.next - 1
  pub begins : BeginsWithRecords root.config.form rs (bytes_of (files (map_file_of root)))

-- The epochs below one are read and whole, and their entries are joined to the first records of the
-- map.
pub record IsReadUpTo (root : Root) (files : Files) (rs : List Record) (epoch : ℕ) (v : JoinedEntries)
    : Type 0 where
  pub entries : List Entry
  pub after : List Record
  pub holds : HoldsJoined root.config.form v rs after entries
  pub whole : AreWhole root files epoch entries

-- All epochs are read, and this is kept of their entries.
pub record AreRead (root : Root) (files : Files) (rs : List Record) (kept : List StoredEntry)
    : Type 0 where
  pub entries : List Entry
  pub opened : AreOpened root files rs entries
  pub kept_are : kept ≡ stored_after root.config.form [] entries

-- The bytes of the cache that a root names: those that are there, up to as many as it says.
abbrev pub cache_in : Root → Files → List ℕ
cache_in root files = take root.cache.length (bytes_of (files (cache_file_of root)))

-- Files that are opened stand for the archive of what was found, with what there is of the cache.
abbrev pub OpenedRecovers : Type 0
OpenedRecovers = (root : Root) (files : Files) (rs : List Record) (entries : List Entry)
    → HasMap root files rs → AreOpened root files rs entries
    → RecoversArchiveBy root (cache_in root files) files (archive_of root entries)

-- Files that stand for an archive are opened with its entries.
abbrev pub RecoversOpened : Type 0
RecoversOpened = (root : Root) (files : Files) (rs : List Record) (a : Archive) (cache : List ℕ)
    → HasMap root files rs → RecoversArchiveBy root cache files a → AreOpened root files rs a.entries

-- Files that are opened have no damage.
abbrev pub OpenedUndamaged : Type 0
OpenedUndamaged = (root : Root) (files : Files) (rs : List Record) (entries : List Entry)
    (epoch offset : ℕ) → HasMap root files rs → AreOpened root files rs entries
    → IsFirstDamage root files rs epoch offset → ⊥

-- Files that stand for an archive have its map.
abbrev pub RecoversMap : Type 0
RecoversMap = (root : Root) (files : Files) (a : Archive) (cache : List ℕ)
    → RecoversArchiveBy root cache files a → HasMap root files (records_of a)

-- Files that stand for an archive have no damage, neither in their map nor in an epoch.
abbrev pub RecoversUndamaged : Type 0
RecoversUndamaged =
    (root : Root) (files : Files) (a : Archive) (cache : List ℕ) → RecoversArchiveBy root cache files a
    → ((offset : ℕ)
    → LacksRecord root.config.form (root.next - 1) offset (bytes_of (files (map_file_of root))) → ⊥)
    × ((rs : List Record) (epoch offset : ℕ) → HasMap root files rs
    → IsFirstDamage root files rs epoch offset → ⊥)
