-- What at most one new root leaves of the root file, and runs that begin no second one.
use Rattle.std.specs.Prelude.{◌≡◌, ◌≢◌, ◌⊎◌, ℕ, ◌+◌, ◌-◌, ◌<◌, ◌≤◌, Option, Some, None, List, length, get_or}
use Rattle.disk_model.specs.declared.disk.Disk.{Ghosts as Disk}
use Rattle.disk_model.specs.Disk.{File, Files, Content, MaySurvive}
use Rattle.disk_model.specs.Moments.{LeavesOnly}
use Rattle.root_slots.specs.RootName.{root_name}
use Rattle.root_slots.specs.Spelling.{body_size}
use Rattle.root_slots.specs.Slots.{AreBoth, body_at, body_offset, gate}

-- All bytes of a root file but the gate and the body of this slot are as they were.
pub record StaysOutside (slot : ℕ) (old file : List ℕ) : Type 0 where
  pub size : length file ≡ length old
  pub bytes : (i : ℕ) → i ≢ slot → (i < body_offset slot) ⊎ (body_offset slot + body_size ≤ i)
      → get_or file i 0 ≡ get_or old i 0

-- A body is the one that came, if one did, or one that a root file had: in this slot or in the other.
abbrev pub IsBodyOf : ℕ → Option (List ℕ) → List ℕ → List ℕ → Type 0
IsBodyOf slot came old body = (came ≡ Some body)
    ⊎ ((body ≡ body_at old slot) ⊎ (body ≡ body_at old (1 - slot)))

-- A root file in which at most this slot was written, and which has at most one root that it hadn't
-- before, with the body that came: where the gate of the slot is open, it has such a body. While the
-- gate is shut the slot may have any.
pub record HasOneRoot (slot : ℕ) (came : Option (List ℕ)) (old file : List ℕ) : Type 0 where
  pub outside : StaysOutside slot old file
  pub opened : gate file slot ≡ 1 → IsBodyOf slot came old (body_at file slot)

-- The same between two calls: the slot has such a body, also while its gate is shut.
pub record HasOneBody (slot : ℕ) (came : Option (List ℕ)) (old file : List ℕ) : Type 0 where
  pub outside : StaysOutside slot old file
  pub body : IsBodyOf slot came old (body_at file slot)

-- A root file comes by this relation from one that a crash before might have left.
pub record ComesFrom (P : List ℕ → List ℕ → Type 0) (k : Content) (file : File) : Type 0 where
  pub from : File
  pub fits : MaySurvive (k root_name).sure from
  pub by : AreBoth P from file

-- The root file is one that a crash before might have left, but for at most one new root in this slot,
-- if the disk tells its content.
abbrev pub OneRootStays : ℕ → Option (List ℕ) → Option Content → Files → Type 0
OneRootStays slot came None image = Unit {0}
OneRootStays slot came (Some k) image = ComesFrom (HasOneRoot slot came) k (image root_name)

-- So is each root file that a crash may leave after a call.
abbrev pub WentOneRoot : ℕ → Option (List ℕ) → Content → Content → Type 0
WentOneRoot slot came old new = (file : File) → MaySurvive (new root_name).sure file
    → ComesFrom (HasOneBody slot came) old file

-- At each moment of a run at most this slot of the root file is written, and at most one root comes into
-- it, with this body. All other bytes of that file are as before.
abbrev pub RunsOneRoot : {D : Type 0} → Disk D → ℕ → Option (List ℕ) → D → D → Type 0
RunsOneRoot g slot came old new = LeavesOnly g old new (OneRootStays slot came (g.content old))

-- A run begins at most one root, in this slot.
abbrev pub BeginsRootIn : {D : Type 0} → Disk D → ℕ → D → D → Type 0
BeginsRootIn g slot old new = (came : Option (List ℕ)) × RunsOneRoot g slot came old new

-- A run begins at most one root: at each of its moments, also after a fault, all bytes of the root file
-- are as before but those of one slot, into which at most one new root comes, the same at each moment.
pub record BeginsOneRoot {D : Type 0} (g : Disk D) (old new : D) : Type 0 where
  pub slot : ℕ
  pub in_range : slot < 2
  pub came : Option (List ℕ)
  pub crash : RunsOneRoot g slot came old new

-- A run begins no root. A slot whose gate is shut may have been written, and stays shut.
pub record BeginsNoRoot {D : Type 0} (g : Disk D) (old new : D) : Type 0 where
  pub slot : ℕ
  pub in_range : slot < 2
  pub crash : RunsOneRoot g slot None old new
