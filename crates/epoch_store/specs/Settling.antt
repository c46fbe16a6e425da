-- How the disk of an archive is settled: the other slot is made ready, tails are cut, and files
-- that the root doesn't name are removed.
use Rattle.std.specs.Prelude.{◌≡◌, ◌≢◌, ◌-◌, ◌<◌, ◌≤◌, ℕ, false, List, length, take, Option, Some, None, IsSome}
use Rattle.std.specs.List.{Contains}
use Rattle.disk_model.specs.declared.name.FileName.{FileName}
use Rattle.disk_model.specs.Disk.{Files, Content, bytes_of, overlay}
use Rattle.disk_model.specs.Synced.{IsSettled}
use Rattle.root_slots.specs.declared.root.Root.{Root}
use Rattle.root_slots.specs.RootName.{root_name}
use Rattle.root_slots.specs.Each.{IfThere}
use Rattle.root_slots.specs.Slots.{Current, Ready, Elsewhere, gate, body_offset}
use Rattle.root_slots.specs.Spelling.{spelling}
use Rattle.root_change.specs.Names.{names_file, named_end}
use Rattle.root_change.specs.Texts.{Texts, StandsFor, as_read}

-- All that reads give is on the disk, and the current root is this body in this slot.
pub record IsSettledRoot (slot : ℕ) (body : List ℕ) (k : Content) : Type 0 where
  pub in_range : slot < 2
  pub settled : IsSettled k
  pub current : IfThere (Current slot body) (k root_name).seen

-- The same for a disk that tells its content.
abbrev pub RootIsSettled : ℕ → List ℕ → Option Content → Type 0
RootIsSettled slot body None = ⊥
RootIsSettled slot body (Some k) = IsSettledRoot slot body k

-- While the other slot is made ready, the current root stays, and all other files are as a crash
-- before might have left them.
pub record KeepsCurrent (slot : ℕ) (body : List ℕ) (k : Content) (image : Files) : Type 0 where
  pub root : IfThere (Current slot body) (image root_name)
  pub elsewhere : Elsewhere k image

-- The same, if the disk tells its content.
abbrev pub StaysCurrent : ℕ → List ℕ → Option Content → Files → Type 0
StaysCurrent slot body None image = Unit {0}
StaysCurrent slot body (Some k) image = KeepsCurrent slot body k image

-- The other slot is ready for the next root, every other file reads as before, and all of it is on
-- the disk.
pub record IsReadied (slot : ℕ) (body : List ℕ) (old new : Content) : Type 0 where
  pub root : IfThere (Ready (1 - slot) body) (new root_name).seen
  pub elsewhere : (other : FileName) → other ≢ root_name → (new other).seen ≡ (old other).seen
  pub settled : IsSettled new

-- A root file that is as before if the gate of the other slot is open. If it is shut, that slot has
-- this body, and all else is as before.
pub record KeepsSlots (slot : ℕ) (body old new : List ℕ) : Type 0 where
  pub opened : gate old (1 - slot) ≡ 1 → new ≡ old
  pub filled : gate old (1 - slot) ≢ 1 → new ≡ overlay (body_offset (1 - slot)) body old

-- The same of the root file of a disk.
abbrev pub SlotsKept : ℕ → List ℕ → Content → Content → Type 0
SlotsKept slot body old new =
    KeepsSlots slot body (bytes_of (old root_name).seen) (bytes_of (new root_name).seen)

-- The slots of the root file are kept so, and every other file reads as before.
pub record ReadiesSlot (slot : ℕ) (body : List ℕ) (old new : Content) : Type 0 where
  pub slots : SlotsKept slot body old new
  pub elsewhere : (other : FileName) → other ≢ root_name → (new other).seen ≡ (old other).seen

-- A disk on which all is synced reads as files that stand for texts by a root in a slot.
pub record IsFoundDisk (root : Root) (slot : ℕ) (texts : Texts) (k : Content) : Type 0 where
  pub files_are : IsSettledRoot slot (spelling root) k
  pub stands : StandsFor root texts (as_read k)

-- The same for a disk that tells its content.
abbrev pub FoundOn : Root → ℕ → Texts → Option Content → Type 0
FoundOn root slot texts None = ⊥
FoundOn root slot texts (Some k) = IsFoundDisk root slot texts k

-- What settling a disk requires: it reads as files that stand for texts, and these are the names of
-- all files.
pub record IsToSettle (root : Root) (slot : ℕ) (texts : Texts) (names : List FileName)
    (k : Content) : Type 0 where
  pub found : IsFoundDisk root slot texts k
  pub all : (name : FileName) → IsSome (k name).seen → Contains names name

-- The same for a disk that tells its content.
abbrev pub ToSettle : Root → ℕ → Texts → List FileName → Option Content → Type 0
ToSettle root slot texts names None = ⊥
ToSettle root slot texts names (Some k) = IsToSettle root slot texts names k

-- Of the listed files those are gone that a root doesn't name, and the others have no more bytes
-- than count; all bytes that count are as they were. The other slot is ready.
pub record IsSwept (root : Root) (slot : ℕ) (names : List FileName) (old new : Content)
    : Type 0 where
  pub gone : (name : FileName) → Contains names name → names_file root name ≡ false
      → (new name).seen ≡ None
  pub short : (name : FileName) → Contains names name → name ≢ root_name
      → length (bytes_of (new name).seen) ≤ named_end root name
  pub fronts : (name : FileName) → name ≢ root_name
      → take (named_end root name) (bytes_of (new name).seen)
      ≡ take (named_end root name) (bytes_of (old name).seen)
  pub none_made : (name : FileName) → name ≢ root_name → (old name).seen ≡ None
      → (new name).seen ≡ None
  pub slots : SlotsKept slot (spelling root) old new

-- There is no file that a root doesn't name, and no file has more bytes than count. All bytes that
-- count are as they were, those of a cache too. The other slot is ready, and no root was committed.
pub record IsSettledBy (root : Root) (slot : ℕ) (old new : Content) : Type 0 where
  pub gone : (name : FileName) → names_file root name ≡ false → (new name).seen ≡ None
  pub short : (name : FileName) → name ≢ root_name
      → length (bytes_of (new name).seen) ≤ named_end root name
  pub fronts : (name : FileName) → name ≢ root_name
      → take (named_end root name) (bytes_of (new name).seen)
      ≡ take (named_end root name) (bytes_of (old name).seen)
  pub slots : SlotsKept slot (spelling root) old new
