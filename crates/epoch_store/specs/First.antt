-- The first root of an archive, in a root file of zeros.
use Rattle.std.specs.Prelude.{◌≡◌, ◌≢◌, ◌⊎◌, ℕ, List, Option, Some, None, Result, Ok, Err, replicate}
use Rattle.arch_base.specs.declared.config.Config.{Config}
use Rattle.disk_model.specs.declared.name.FileName.{FileName}
use Rattle.disk_model.specs.Sizes.{epoch_count}
use Rattle.root_slots.specs.declared.root.Root.{Root}
use Rattle.root_slots.specs.Valid.{no_place}
use Rattle.epoch_store.specs.declared.refusal.InitRefusal.{InitRefusal}
use Rattle.epoch_store.specs.declared.refusal.InitRefusal.TheVariants.{Exists, DiskFault}
use Rattle.disk_model.specs.Disk.{File, Files, Content, Image, BothTold, WhereTold, MaySurvive}
use Rattle.disk_model.specs.Synced.{IsSettled}
use Rattle.arch_model.specs.Archives.{empty_archive}
use Rattle.root_slots.specs.RootName.{root_name}
use Rattle.root_slots.specs.Each.{IfThere}
use Rattle.root_slots.specs.Slots.{root_size, Current, Elsewhere, HasFirstRoot, Ready, IsShutFile, with_root}
use Rattle.root_slots.specs.Spelling.{spelling}
use Rattle.store_finding.specs.Recovery.{Recovers}
use Rattle.epoch_store.specs.Opens.{IsOnlySynced}

-- All bytes of a root file are zeros.
abbrev pub AreZeros : List ℕ → Type 0
AreZeros file = file ≡ replicate root_size 0

-- A root file has this body as its first root: in the first slot, whose gate is open, and all else is
-- zeros.
pub record IsFirstRoot (body file : List ℕ) : Type 0 where
  pub current : Current 0 body file
  pub rest : file ≡ with_root 0 body (replicate root_size 0)

-- No slot is open, or the first root is there; all other files are as a crash before might have
-- left them.
pub record IsShutOrFirst (body : List ℕ) (k : Content) (image : Files) : Type 0 where
  pub root : IsShutFile (image root_name) ⊎ IfThere (IsFirstRoot body) (image root_name)
  pub elsewhere : Elsewhere k image

-- The same, if the disk tells its content.
abbrev pub ShutOrFirst : List ℕ → Option Content → Files → Type 0
ShutOrFirst body None image = Unit {0}
ShutOrFirst body (Some k) image = IsShutOrFirst body k image

-- No slot is open, or the first root is there, with this body.
abbrev pub ShutOrRoot : List ℕ → Files → Type 0
ShutOrRoot body image = IsShutFile (image root_name) ⊎ IfThere (IsFirstRoot body) (image root_name)

-- The same, if the disk tells its content.
abbrev pub MakesRoot : List ℕ → Option Content → Files → Type 0
MakesRoot body None image = Unit {0}
MakesRoot body (Some k) image = ShutOrRoot body image

-- The root of an archive without entries.
abbrev pub first_root_of : Config → Root
first_root_of config = record {
  config = config;
  sequence = 1;
  next = 1;
  map = record { generation = 1; length = 0 };
  epochs = replicate epoch_count no_place;
  cache = no_place;
}

-- Files stand for the archive of these settings without entries, by its first root, which is the only
-- one of the root file.
abbrev pub RecoversFirst : Config → Files → Type 0
RecoversFirst config image = Recovers image (empty_archive config)
    × IfThere (IsFirstRoot (spelling (first_root_of config))) (image root_name)

-- What a crash leaves while an archive of these settings is created: what it might have left before;
-- and if no slot was open, no open slot, or that archive by its first root.
abbrev pub MakingLeaves : Config → Option Content → Files → Type 0
MakingLeaves config content image = Image content image ⊎ (WhereTold (λ k.
    IsShutFile (k root_name).seen) content
    × (IsShutFile (image root_name) ⊎ RecoversFirst config image))

-- A disk has a root of this body in the first slot of a root file that is otherwise zeros, the other
-- slot is ready for the next one, there is no other file, and all that reads give is on the disk.
pub record HasOnly (body : List ℕ) (k : Content) : Type 0 where
  pub roots : (file : File) → MaySurvive (k root_name).sure file → IfThere (Ready 1 body) file
  pub others : (name : FileName) → name ≢ root_name → (k name).seen ≡ None
  pub settled : IsSettled k
  pub first : HasFirstRoot body k

-- The results of creating an archive, by the root file as it reads: a store if no slot is open, and
-- otherwise `Exists`.
abbrev pub MakingAnswers : {T : Type 0} → Result T InitRefusal → Content → Type 0
MakingAnswers (Ok store) k = IsShutFile (k root_name).seen
MakingAnswers (Err Exists) k = IsShutFile (k root_name).seen → ⊥
MakingAnswers (Err _) k = Unit {0}

-- After this error, unless the disk failed, all files are synced, and otherwise unchanged.
abbrev pub OnlySyncs : InitRefusal → Option Content → Option Content → Type 0
OnlySyncs DiskFault old new = Unit {0}
OnlySyncs _ old new = BothTold IsOnlySynced old new

-- An error of creating an archive, except a fault of the disk, comes before anything is changed.
abbrev pub RefusesToMake : {T : Type 0} → Result T InitRefusal → Option Content → Option Content
    → Type 0
RefusesToMake (Ok made) old new = Unit {0}
RefusesToMake (Err why) old new = OnlySyncs why old new
