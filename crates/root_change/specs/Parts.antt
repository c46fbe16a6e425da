-- The parts of an archive, and the files that hold them by a root.
use Rattle.std.specs.Prelude.{◌≡◌, ◌≤◌, ℕ, if◌then◌else◌, List, [], length, Option}
use Rattle.disk_model.specs.declared.name.FileKind.{FileKind}
use Rattle.disk_model.specs.declared.name.FileKind.TheVariants as kind
use Rattle.disk_model.specs.Disk.{Files, Content}
use Rattle.root_slots.specs.declared.root.Root.{Root}
use Rattle.root_slots.specs.Valid.{RootFits, IsRoot}
use Rattle.root_change.specs.Names.{place_of, names_file}
use Rattle.root_change.specs.Texts.{Texts, StandsFor, OnDisk}

-- The bytes of each part of an archive, by its kind and its number: of the map and the cache, whose
-- number is 0, and of each epoch. All other parts are empty.
abbrev pub Parts : Type 0
Parts = FileKind → ℕ → List ℕ

-- The text of each file: the part that a root names there, and otherwise none.
abbrev pub texts_of : Root → Parts → Texts
texts_of root parts name = if names_file root name then parts name.kind name.number else []

-- A part of a kind may have so many bytes where a root says how many count: just as many. Of a cache
-- as many count as there are, up to that.
abbrev pub MayHave : FileKind → ℕ → ℕ → Type 0
MayHave kind.Cache named count = count ≤ named
MayHave _ named count = count ≡ named

-- Each part is as long as the root says, a cache at most so long.
abbrev pub PartsFit : Root → Parts → Type 0
PartsFit root parts = (kind_ : FileKind) (number : ℕ)
    → MayHave kind_ (place_of root kind_ number).length (length (parts kind_ number))

-- Files stand for parts by a root that names them.
pub record RecoversPartsBy (root : Root) (parts : Parts) (image : Files) : Type 0 where
  pub valid : IsRoot root
  pub fits : RootFits root
  pub long : PartsFit root parts
  pub stands : StandsFor root (texts_of root parts) image

-- A disk is exactly that of parts by a root that names them, and this slot is ready for the next
-- root.
pub record IsOwnOfParts (root : Root) (free : ℕ) (parts : Parts) (content : Option Content) : Type 0 where
  pub valid : IsRoot root
  pub fits : RootFits root
  pub long : PartsFit root parts
  pub on : OnDisk root free (texts_of root parts) content
