-- What an archive that wasn't opened leaves.
use Rattle.std.specs.Prelude.{◌⊎◌, ℕ, List, Option, Result, Ok, Err}
use Rattle.disk_model.specs.Disk.{Content, BothTold, WhereTold}
use Rattle.disk_model.specs.Synced.{IsSettled}
use Rattle.arch_model.specs.Archives.{Archive}
use Rattle.arch_model.specs.declared.opening.OpenRefusal.{OpenRefusal}
use Rattle.arch_model.specs.declared.opening.OpenRefusal.TheVariants.{NoArchive, Damaged, DiskFault, NoMemory}
use Rattle.store_finding.specs.Files.{as_read}
use Rattle.epoch_store.specs.Opens.{ReadsWith, OpensFiles, IsOnlySynced}
use Rattle.epoch_store.specs.Settling.{IsSettledBy}
use Rattle.store_finding.specs.Kept.{StoreState, IsStoreWith}

-- Files that read as those of an archive with a cache still do.
abbrev pub StillReads : Option Content → Option Content → Type 0
StillReads old new = (a : Archive) (cache : List ℕ) → ReadsWith cache a old
    → ReadsWith cache a new

-- The files can be opened, and the disk is settled by their root: all bytes that count stay, no other
-- file is left, and all that reads give is on the disk. It is the own one of an archive as which they read.
abbrev pub SettlesOpened : Option Content → Option Content → Type 0
SettlesOpened old new = (v : StoreState) × WhereTold (λ k. OpensFiles (as_read k) (Ok v)) old
    × BothTold (IsSettledBy v.root v.slot) old new
    × ((a : Archive) (cache : List ℕ) → ReadsWith cache a old → IsStoreWith v cache a new)
    × WhereTold IsSettled new

-- If there is no archive, or a file is damaged, all files are synced, and otherwise unchanged. Before
-- `NoMemory` the disk may be settled if its files can be opened, and reads as the archive that it did;
-- otherwise the files are only synced, too. Of a fault of the disk nothing is said.
abbrev pub LeavesKindly : OpenRefusal → Option Content → Option Content → Type 0
LeavesKindly NoArchive old new = BothTold IsOnlySynced old new
LeavesKindly (Damaged file at) old new = BothTold IsOnlySynced old new
LeavesKindly DiskFault old new = Unit {0}
LeavesKindly NoMemory old new = StillReads old new
    × (BothTold IsOnlySynced old new ⊎ SettlesOpened old new)

-- The same for a result.
abbrev pub RefusesKindly : {T : Type 0} → Result T OpenRefusal → Option Content → Option Content
    → Type 0
RefusesKindly (Ok made) old new = Unit {0}
RefusesKindly (Err refusal) old new = LeavesKindly refusal old new
