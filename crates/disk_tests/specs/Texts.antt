-- A file with a gate and two texts.
use Rattle.std.specs.Prelude.{◌≡◌, ◌≢◌, ◌⊎◌, ℕ, ◌==◌, if◌then◌else◌, Option, Some, None, List, length, get_or, take, drop}
use Rattle.disk_model.specs.declared.name.FileName.{FileName}
use Rattle.disk_model.specs.Disk.{File, Files, Content, MaySurvive, IsLength}
use Rattle.root_slots.specs.Each.{IfThere}

-- The text that a file stands for: the second one if the gate is 1, otherwise the first.
abbrev pub text_of : List ℕ → List ℕ
text_of file = if get_or file 0 0 == 1 then take 8 (drop 9 file) else take 8 (drop 1 file)

-- The file stands for this text.
abbrev pub StandsForText : List ℕ → List ℕ → Type 0
StandsForText text file = text_of file ≡ text

-- The file is whole, its gate is shut, and it stands for this text.
pub record IsReadyFile (text file : List ℕ) : Type 0 where
  pub size : length file ≡ 17
  pub shut : get_or file 0 0 ≢ 1
  pub first : take 8 (drop 1 file) ≡ text

-- The file reads as seventeen bytes.
abbrev pub HasSeventeen : FileName → Content → Type 0
HasSeventeen name = IsLength name 17

-- The disk tells its content, and this holds of the file, whatever a crash leaves of it.
abbrev pub EachFile : FileName → (List ℕ → Type 0) → Option Content → Type 0
EachFile name P None = ⊥
EachFile name P (Some k) = (file : File) → MaySurvive (k name).sure file → IfThere P file

-- The file stands for one text or the other.
abbrev pub StandsForEitherText : FileName → List ℕ → List ℕ → Files → Type 0
StandsForEitherText name old new image =
    IfThere (λ file. StandsForText old file ⊎ StandsForText new file) (image name)
