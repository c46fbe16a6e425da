-- The bytes of the root file between its gates and its bodies, which no call changes.
use Rattle.std.specs.Prelude.{◌≡◌, ℕ, Option, Some, None, List, take, drop, refl}
use Rattle.std.proofs.Common.{◌∙◌}
use Rattle.disk_model.specs.declared.disk.Disk.{Ghosts as Disk}
use Rattle.disk_model.specs.Disk.{File, Files, Content, Image, BothTold, MaySurvive, bytes_of}
use Rattle.disk_model.specs.Moments.{LeavesOnly}
use Rattle.root_slots.specs.RootName.{root_name}

-- The bytes of a file between its gates and its bodies.
unfoldable pub crash_between : List ℕ → List ℕ
crash_between file = take 1022 (drop 2 file)

-- A file has there the bytes of a root file that a crash might have left.
pub record IsBetween (k : Content) (file : File) : Type 0 where
  pub from : File
  pub fits : MaySurvive (k root_name).sure from
  pub same : crash_between (bytes_of file) ≡ crash_between (bytes_of from)

-- The root file has there the bytes of one that a crash before might have left, if the disk tells its
-- content.
abbrev pub BetweenStays : Option Content → Files → Type 0
BetweenStays None image = Unit {0}
BetweenStays (Some k) image = IsBetween k (image root_name)

-- So has each root file that a crash may leave afterwards.
abbrev pub WentBetween : Content → Content → Type 0
WentBetween old new = (file : File) → MaySurvive (new root_name).sure file → IsBetween old file

-- Before anything is done.
pub between_image : (k : Option Content) (image : Files) → Image k image → BetweenStays k image
between_image None image left = tt
between_image (Some k) image left =
    record { from = image root_name; fits = left root_name; same = refl }

-- After a run that kept them.
pub between_then : (k m : Option Content) (image : Files) → BothTold WentBetween k m
    → BetweenStays m image → BetweenStays k image
between_then None m image went stays = tt
between_then (Some k) None image went stays = absurd went
between_then (Some k) (Some m) image went stays =
    let first = went stays.from stays.fits in
    record { from = first.from; fits = first.fits; same = stays.same ∙ first.same }

module _ {D : Type 0} (g : Disk D) where
  -- These bytes stay at each moment of a run.
  abbrev pub RunsBetween : D → D → Type 0
  RunsBetween old new = LeavesOnly g old new (BetweenStays (g.content old))
