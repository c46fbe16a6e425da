-- Private: what is written for a next root beside the texts of the current one.
use Rattle.std.specs.Prelude.{◌≡◌, ◌≢◌, ◌⊎◌, ◌<◌, ◌==◌, ℕ, true, false, if◌then◌else◌, List, [], ◌++◌, None}
use Rattle.disk_model.specs.declared.name.FileKind.TheVariants as kind
use Rattle.disk_model.specs.declared.name.FileName.{FileName}
use Rattle.disk_model.specs.Disk.{Content, bytes_of}
use Rattle.root_slots.specs.declared.root.Root.{Root}
use Rattle.root_slots.specs.RootName.{root_name}
use Rattle.root_slots.specs.Slots.{sequence_of}
use Rattle.root_slots.specs.Spelling.{spelling}
use Rattle.root_change.specs.Names.{names_file}
use Rattle.root_change.specs.Texts.{Texts, Measures}
use Rattle.root_change.specs.Parts.{Parts}

-- Files read as texts, of which some may be written for a root to come. A file without a text is
-- missing, unless the current root names it.
pub record ReadsAsTexts (root : Root) (texts : Texts) (k : Content) : Type 0 where
  pub bytes : (name : FileName) → name ≢ root_name → bytes_of (k name).seen ≡ texts name
  pub no_other : (name : FileName) → names_file root name ≡ false → texts name ≡ []
      → (k name).seen ≡ None

-- Texts that were written beside those of a root are those of a later one: what it names is there,
-- and there is no other text but of files that the old root names.
pub record BecomesRoot (old : Root) (texts : Texts) (new : Root) (next : Texts) : Type 0 where
  pub later : sequence_of (spelling old) < new.sequence
  pub measures : Measures new next
  pub named : (name : FileName) → name ≢ root_name → names_file new name ≡ true
      → texts name ≡ next name
  pub others : (name : FileName) → names_file new name ≡ false → (names_file old name ≡ true)
      ⊎ (texts name ≡ [])

-- Parts with bytes appended to an epoch and to the map.
abbrev pub grown : ℕ → List ℕ → List ℕ → Parts → Parts
grown e entry line parts kind.Root n = parts kind.Root n
grown e entry line parts kind.Map n =
    if n == 0 then parts kind.Map 0 ++ line else parts kind.Map n
grown e entry line parts kind.Epoch n =
    if n == e then parts kind.Epoch e ++ entry else parts kind.Epoch n
grown e entry line parts kind.Cache n = parts kind.Cache n
