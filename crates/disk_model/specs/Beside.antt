-- Runs of a disk's calls that change each file only from a bound on.
use Rattle.std.specs.Prelude.{ℕ, ◌≤◌, Option, Some, None}
use Rattle.disk_model.specs.declared.disk.Disk.{Ghosts as Disk}
use Rattle.disk_model.specs.declared.name.FileName.{FileName}
use Rattle.disk_model.specs.Disk.{File, Files, Survival, Content, MaySurvive, BothTold}
use Rattle.disk_model.specs.Moments.{LeavesOnly}
use Rattle.disk_model.specs.Laws.{FrontOrigin}

-- The offset from which on each file may be changed, none if it may not be changed.
abbrev pub Bounds : Type 0
Bounds = FileName → Option ℕ

-- A change from this offset on respects a bound.
abbrev pub RespectsBound : Option ℕ → ℕ → Type 0
RespectsBound None at = ⊥
RespectsBound (Some n) at = n ≤ at

-- A file is one that a crash might have left before, or starts with the same bytes as one, up to a
-- bound.
abbrev pub StaysUpTo : Option ℕ → Survival → File → Type 0
StaysUpTo None s file = MaySurvive s file
StaysUpTo (Some n) s file = FrontOrigin n s file

-- Each file stays up to its bound.
pub record AreBeside (bounds : Bounds) (k : Content) (image : Files) : Type 0 where
  pub each : (name : FileName) → StaysUpTo (bounds name) (k name).sure (image name)

-- The same, if the disk tells its content.
abbrev pub Beside : Bounds → Option Content → Files → Type 0
Beside bounds None image = Unit {0}
Beside bounds (Some k) image = AreBeside bounds k image

-- Each file that a crash may leave after a run stays up to its bound.
pub record WentBeside (bounds : Bounds) (old new : Content) : Type 0 where
  pub each : (name : FileName) (file : File) → MaySurvive (new name).sure file
      → StaysUpTo (bounds name) (old name).sure file

-- A run changes each file only from its bound on: so does what a crash leaves at each of its
-- moments, and what a crash may leave after it.
pub record RunsBeside {D : Type 0} (g : Disk D) (bounds : Bounds) (old new : D) : Type 0 where
  pub moments : LeavesOnly g old new (Beside bounds (g.content old))
  pub told : BothTold (WentBeside bounds) (g.content old) (g.content new)
