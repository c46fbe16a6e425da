-- Which files stand for the bytes that a root names, and which are exactly these.
use Rattle.std.specs.Prelude.{◌≡◌, ◌≢◌, ℕ, ◌≤◌, true, false, List, length, take, Option, Some, None}
use Rattle.disk_model.specs.declared.name.FileKind.TheVariants as kind
use Rattle.disk_model.specs.declared.name.FileName.{FileName}
use Rattle.disk_model.specs.Disk.{File, Files, Content, MaySurvive, bytes_of}
use Rattle.root_slots.specs.declared.root.Root.{Root}
use Rattle.root_slots.specs.RootName.{root_name}
use Rattle.root_slots.specs.Each.{IfThere, EachRoot}
use Rattle.root_slots.specs.Slots.{HasRoot, Ready, HasRootSize}
use Rattle.root_slots.specs.Spelling.{spelling}
use Rattle.root_change.specs.Names.{names_file, named_end}

-- The bytes of each file that count, none of a file that isn't named. Nothing is said of the root
-- file.
abbrev pub Texts : Type 0
Texts = FileName → List ℕ

-- A file starts with these bytes. A missing file starts with none.
pub record Fronts (bytes : List ℕ) (file : File) : Type 0 where
  pub long : length bytes ≤ length (bytes_of file)
  pub front : take (length bytes) (bytes_of file) ≡ bytes

-- The bytes of a file that count by a root: those up to the end that it names, or as many of them as
-- there are.
abbrev pub counted : Root → FileName → File → List ℕ
counted root name file = take (named_end root name) (bytes_of file)

-- Files stand for texts by a root: it is their current root, and the bytes that count of each other
-- file are its text. What follows them, and files that aren't named, may be anything.
pub record StandsFor (root : Root) (texts : Texts) (image : Files) : Type 0 where
  pub current : IfThere (HasRoot (spelling root)) (image root_name)
  pub fronts : (name : FileName) → name ≢ root_name → counted root name (image name) ≡ texts name

-- Files are exactly those of texts by a root: each has just its text, and there is none that the
-- root doesn't name.
pub record IsExact (root : Root) (texts : Texts) (files : Files) : Type 0 where
  pub current : IfThere (HasRoot (spelling root)) (files root_name)
  pub ends : (name : FileName) → name ≢ root_name → bytes_of (files name) ≡ texts name
  pub no_other : (name : FileName) → names_file root name ≡ false → files name ≡ None

-- The files of a disk as reads give them.
abbrev pub as_read : Content → Files
as_read k name = (k name).seen

-- No text is longer than the root says.
abbrev pub Measures : Root → Texts → Type 0
Measures root texts = (name : FileName) → name ≢ root_name
    → length (texts name) ≤ named_end root name

-- The bytes that count of each file that a crash may leave are its text.
abbrev pub EachFronts : Root → Texts → Content → Type 0
EachFronts root texts k = (name : FileName) → name ≢ root_name → (file : File)
    → MaySurvive (k name).sure file → counted root name file ≡ texts name

-- A disk is exactly that of texts by a root, and this slot is ready for the next root: a crash
-- leaves files that stand for the texts, and the files as reads give them are exactly theirs.
pub record IsOn (root : Root) (free : ℕ) (texts : Texts) (k : Content) : Type 0 where
  pub roots : EachRoot (Ready free (spelling root)) (Some k)
  pub fronts : EachFronts root texts k
  pub exact : IsExact root texts (as_read k)

-- The same for a disk that tells its content.
abbrev pub OnDisk : Root → ℕ → Texts → Option Content → Type 0
OnDisk root free texts None = ⊥
OnDisk root free texts (Some k) = IsOn root free texts k

-- Each file is at least as long as a root says.
abbrev pub HasLengths : Root → Content → Type 0
HasLengths root k = (name : FileName) → name ≢ root_name
    → named_end root name ≤ length (bytes_of (k name).seen)

-- The root file has its size, and each other file is at least as long as the root says.
pub record HasSizes (root : Root) (k : Content) : Type 0 where
  pub root_file : HasRootSize k
  pub lengths : HasLengths root k

-- The same, but for a cache.
pub record HasPartSizes (root : Root) (k : Content) : Type 0 where
  pub root_file : HasRootSize k
  pub lengths : (name : FileName) → name ≢ root_name → name.kind ≢ kind.Cache
      → named_end root name ≤ length (bytes_of (k name).seen)

-- The files that a root names read as before, and the root file has its size.
pub record KeepsNamed (root : Root) (old new : Content) : Type 0 where
  pub root_file : HasRootSize new
  pub named : (name : FileName) → name ≢ root_name → names_file root name ≡ true
      → (new name).seen ≡ (old name).seen
