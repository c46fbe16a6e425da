-- The results of opening an archive, and what they leave.
use Rattle.std.specs.Prelude.{◌≡◌, ◌⊎◌, ℕ, List, [], Option, Some, None, Result, Ok, Err}
use Rattle.std.specs.List.{Contains}
use Rattle.disk_model.specs.declared.disk.Disk.{Ghosts as Disk}
use Rattle.disk_model.specs.declared.name.FileName.{FileName}
use Rattle.disk_model.specs.Disk.{Files, Content, Image, BothTold}
use Rattle.disk_model.specs.Moments.{LeavesOnly}
use Rattle.disk_model.specs.Synced.{IsSettled}
use Rattle.arch_model.specs.Archives.{Archive}
use Rattle.arch_model.specs.declared.opening.OpenRefusal.{OpenRefusal}
use Rattle.arch_model.specs.declared.opening.OpenRefusal.TheVariants.{NoArchive, Damaged, DiskFault, NoMemory}
use Rattle.arch_judge.specs.declared.index.Index.{Index}
use Rattle.number_map.specs.declared.line.Record.{Record}
use Rattle.root_slots.specs.RootName.{root_name}
use Rattle.root_slots.specs.Slots.{IsShutFile}
use Rattle.store_finding.specs.Files.{as_read}
use Rattle.store_finding.specs.Openings.{AreRead}
use Rattle.store_finding.specs.Finding.{IsCurrentRoot, HasRecords, IsDamagedFile}
use Rattle.store_finding.specs.Recovery.{RecoversWith, RecoversSomeWith}
use Rattle.store_finding.specs.Kept.{StoreState}

-- Files stand for one of these archives with a cache of these bytes, or for none if that is one of
-- these.
abbrev pub RecoversOfWith : List ℕ → List (Option Archive) → Files → Type 0
RecoversOfWith cache may image =
    (a : Option Archive) × Contains may a × RecoversSomeWith cache image a

-- Each crash of a disk that tells its content leaves such files.
abbrev pub AllRecoverWith : List ℕ → List (Option Archive) → Option Content → Type 0
AllRecoverWith cache may None = ⊥
AllRecoverWith cache may (Some k) = (image : Files) → Image (Some k) image
    → RecoversOfWith cache may image

-- A disk that tells its content reads as files that stand for an archive with a cache of these
-- bytes.
abbrev pub ReadsWith : List ℕ → Archive → Option Content → Type 0
ReadsWith cache a None = ⊥
ReadsWith cache a (Some k) = RecoversWith cache (as_read k) a

-- Files stand for one of these archives without a byte of a cache, or for none if that is one of these.
abbrev pub RecoversOf : List (Option Archive) → Files → Type 0
RecoversOf may image = RecoversOfWith [] may image

-- Each crash of a disk that tells its content leaves such files.
abbrev pub AllRecoverOf : List (Option Archive) → Option Content → Type 0
AllRecoverOf may content = AllRecoverWith [] may content

-- A disk that tells its content reads as files that stand for an archive without a byte of a cache.
abbrev pub ReadsAsArchive : Archive → Option Content → Type 0
ReadsAsArchive a content = ReadsWith [] a content

-- A store keeps what the files stand for: their current root and its slot, and the entries of all
-- epochs.
pub record IsOpenedIn (files : Files) (v : StoreState) : Type 0 where
  pub records : List Record
  pub root : IsCurrentRoot v.root v.slot files
  pub has : HasRecords v.root files records
  pub read : AreRead v.root files records v.entries

-- The result of opening, without the index of the store's entries.
abbrev pub store_of : Result (StoreState × Index) OpenRefusal → Result StoreState OpenRefusal
store_of (Ok opened) = Ok opened.0
store_of (Err refusal) = Err refusal

-- The results of opening, by the files as they read: a store of them, that no slot is open, or the
-- first offset that is damaged.
abbrev pub OpensFiles : Files → Result StoreState OpenRefusal → Type 0
OpensFiles files (Ok store) = IsOpenedIn files store
OpensFiles files (Err NoArchive) = IsShutFile (files root_name)
OpensFiles files (Err (Damaged file at)) = IsDamagedFile files file at
OpensFiles files (Err _) = Unit {0}

-- An error that says nothing of the files: the disk failed, or memory ran out.
abbrev pub IsWant : OpenRefusal → Type 0
IsWant DiskFault = Unit {0}
IsWant NoMemory = Unit {0}
IsWant _ = ⊥

-- A result without errors but those.
abbrev pub OpensWell : {T : Type 0} → Result T OpenRefusal → Type 0
OpensWell (Ok store) = Unit {0}
OpensWell (Err refusal) = IsWant refusal

-- Every file reads as before, and all that reads give is on the disk.
pub record IsOnlySynced (old new : Content) : Type 0 where
  pub seen : (name : FileName) → (new name).seen ≡ (old name).seen
  pub settled : IsSettled new

-- Unless the disk failed, all files are synced, and otherwise unchanged.
abbrev pub SyncsBy : {T : Type 0} → Result T OpenRefusal → Option Content → Option Content → Type 0
SyncsBy (Err DiskFault) old new = Unit {0}
SyncsBy _ old new = BothTold IsOnlySynced old new

-- An error, except a fault of the disk, comes before anything is changed.
abbrev pub RefusesBefore : {T : Type 0} → Result T OpenRefusal → Option Content → Option Content
    → Type 0
RefusesBefore (Ok store) old new = Unit {0}
RefusesBefore (Err DiskFault) old new = Unit {0}
RefusesBefore _ old new = BothTold IsOnlySynced old new

-- Nothing can be opened of what a disk that tells its content reads as: there is no archive, or a
-- file is damaged.
abbrev pub OpensNone : Option Content → Type 0
OpensNone None = ⊥
OpensNone (Some k) = (v : StoreState) → IsOpenedIn (as_read k) v → ⊥

-- The disk was synced before anything else was done. Until then a crash leaves what it might have left
-- before, and from then on what is said of the archive as which the files read and of its cache. Where
-- nothing can be opened it then leaves the files as they read.
pub record SyncsThen {D : Type 0} (g : Disk D) (leaves : List ℕ → Archive → Files → Type 0)
    (old new : D)
    : Type 0 where
  pub synced : D
  pub only : BothTold IsOnlySynced (g.content old) (g.content synced)
  pub before : LeavesOnly g old synced (Image (g.content old))
  pub after : (a : Archive) (cache : List ℕ) → ReadsWith cache a (g.content old)
      → LeavesOnly g synced new (leaves cache a)
  pub none : OpensNone (g.content old) → LeavesOnly g synced new (Image (g.content synced))

-- From the sync on a crash leaves what stands for the archive as which the files read.
abbrev pub SyncsFirst : {D : Type 0} → Disk D → D → D → Type 0
SyncsFirst g old new =
    SyncsThen g (λ cache a image. RecoversWith cache image a) old new

-- Nothing was done but to sync the disk, or it was synced first.
abbrev pub SyncsAtMost : {D : Type 0} → Disk D → D → D → Type 0
SyncsAtMost g old new = LeavesOnly g old new (Image (g.content old))
    ⊎ SyncsFirst g old new

-- What holds after any result but a fault of the disk, which may come before the sync.
abbrev pub OnSynced : {T : Type 0} → Result T OpenRefusal → Type 0 → Type 0
OnSynced (Err DiskFault) P = Unit {0}
OnSynced _ P = P
