-- Private: what a window shows of a part of a file.
use Rattle.std.specs.Prelude.{◌≡◌, ℕ, ◌+◌, ◌-◌, ◌<◌, ◌≤◌, min, Bool, true, false, List, ◌++◌, length, take, drop, Result, Ok, Err}
use Rattle.disk_model.specs.declared.refusal.WalkRefusal.{WalkRefusal}
use Rattle.disk_model.specs.Disk.{Content, bytes_of}
use Rattle.epoch_file.specs.declared.window.Part.{Part}

-- The window shows the bytes of a file from the part's offset on; the file has all bytes of the
-- part.
pub record Shows (bytes : List ℕ) (part : Part) (window : List ℕ) : Type 0 where
  pub rest : List ℕ
  pub is : drop part.offset (take part.end bytes) ≡ window ++ rest
  pub whole : part.end ≤ length bytes
  pub inside : part.offset ≤ part.end

-- More bytes of a file came into a window, as many as it has room for or as are left; or none came.
abbrev pub BytesCome : Part → ℕ → List ℕ → List ℕ → Result Bool WalkRefusal → Content → Type 0
BytesCome part room old new (Ok true) k =
    Shows (bytes_of (k part.file).seen) part old → Shows (bytes_of (k part.file).seen) part new
    × (min (length old + room) (part.end - part.offset) ≤ length new)
BytesCome part room old new (Ok false) k = Shows (bytes_of (k part.file).seen) part old → ⊥
BytesCome part room old new (Err e) k = Unit {0}

-- The window has more bytes than before, if there were more.
abbrev pub WindowGrows : List ℕ → List ℕ → Result Bool WalkRefusal → Type 0
WindowGrows old new (Ok true) = length old < length new
WindowGrows old new (Ok false) = Unit {0}
WindowGrows old new (Err e) = Unit {0}

-- The window doesn't go past its part.
abbrev pub IsInsidePart : Part → List ℕ → Type 0
IsInsidePart part window = part.offset + length window ≤ part.end
