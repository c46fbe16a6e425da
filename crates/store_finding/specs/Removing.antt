-- What a removal of files leaves.
use Rattle.std.specs.Prelude.{◌≡◌, ◌⊎◌, Option, Some, None, List}
use Rattle.std.specs.List.{Contains}
use Rattle.disk_model.specs.Disk.{Content, Files, MaySurvive, Removed}
use Rattle.disk_model.specs.declared.name.FileName.{FileName}

-- Some of these files are missing, and all others are as before.
pub record IsFewer (names : List FileName) (k : Content) (image : Files) : Type 0 where
  pub listed : (name : FileName) → Contains names name → (image name ≡ None)
      ⊎ MaySurvive (k name).sure (image name)
  pub others : (name : FileName) → (Contains names name → ⊥) → MaySurvive (k name).sure (image name)

-- The same, if the disk tells its content.
abbrev pub Fewer : List FileName → Option Content → Files → Type 0
Fewer names None image = Unit {0}
Fewer names (Some k) image = IsFewer names k image

-- These files are gone, and the others are as they were.
pub record AreRemoved (names : List FileName) (old new : Content) : Type 0 where
  pub listed : (name : FileName) → Contains names name → Removed (old name) (new name)
  pub others : (name : FileName) → (Contains names name → ⊥) → new name ≡ old name
