-- What a replacement of the root requires, and what it leaves.
use Rattle.std.specs.Prelude.{◌≡◌, ◌≢◌, ◌⊎◌, ◌&&◌, not, ℕ, ◌<◌, Bool, true, false, Option, Some, None}
use Rattle.disk_model.specs.declared.name.FileName.{FileName}
use Rattle.disk_model.specs.declared.name.FileKind.TheVariants as kind
use Rattle.disk_model.specs.Disk.{Files, Content, bytes_of}
use Rattle.disk_model.specs.Synced.{IsSettled}
use Rattle.root_slots.specs.declared.root.Root.{Root}
use Rattle.root_slots.specs.RootName.{root_name}
use Rattle.root_slots.specs.Each.{EachRoot}
use Rattle.root_slots.specs.Slots.{Ready, sequence_of}
use Rattle.root_slots.specs.Spelling.{spelling}
use Rattle.root_change.specs.Names.{names_file}
use Rattle.root_change.specs.Texts.{Texts, StandsFor, Measures, EachFronts}

-- A disk is ready for another root. A crash leaves files that stand for texts by the old root. The
-- next texts are there as reads give the files, and there is no file that neither root names.
pub record IsToReplace (free : ℕ) (old : Root) (texts : Texts) (new : Root) (next : Texts)
    (k : Content) : Type 0 where
  pub roots : EachRoot (Ready free (spelling old)) (Some k)
  pub later : sequence_of (spelling old) < new.sequence
  pub fronts : EachFronts old texts k
  pub measures : Measures new next
  pub reads : (name : FileName) → name ≢ root_name → names_file new name ≡ true
      → bytes_of (k name).seen ≡ next name
  pub others : (name : FileName) → names_file new name ≡ false → (names_file old name ≡ true)
      ⊎ ((k name).seen ≡ None)

-- The same for a disk that tells its content.
abbrev pub ToReplace : ℕ → Root → Texts → Root → Texts → Option Content → Type 0
ToReplace free old texts new next None = ⊥
ToReplace free old texts new next (Some k) = IsToReplace free old texts new next k

-- Files stand for the old texts, or for the next ones.
abbrev pub StandsForEither : Root → Texts → Root → Texts → Files → Type 0
StandsForEither old texts new next image = StandsFor old texts image ⊎ StandsFor new next image

-- The old root names a file, and the new one doesn't.
abbrev pub drops : Root → Root → FileName → Bool
drops old new name = names_file old name && not (names_file new name)

-- Of some files those are gone that the old root names and the new one doesn't. The files that the
-- new one names read as before, and none was created.
pub record Dropped (which : FileName → Type 0) (old new : Root) (k m : Content) : Type 0 where
  pub gone : (name : FileName) → which name → drops old new name ≡ true → (m name).seen ≡ None
  pub kept : (name : FileName) → names_file new name ≡ true → (m name).seen ≡ (k name).seen
  pub none_made : (name : FileName) → (k name).seen ≡ None → (m name).seen ≡ None

-- This file alone.
abbrev pub IsOne : FileName → FileName → Type 0
IsOne name other = other ≡ name

-- The file of an epoch with a number below this one.
abbrev pub IsEpochBelow : ℕ → FileName → Type 0
IsEpochBelow n name = (name.kind ≡ kind.Epoch) × (name.number < n)

-- Any file.
abbrev pub IsAny : FileName → Type 0
IsAny name = Unit {0}

-- All files are gone that the old root names and the new one doesn't, and all that reads give is on
-- the disk.
pub record IsDropped (old new : Root) (k m : Content) : Type 0 where
  pub dropped : Dropped IsAny old new k m
  pub settled : IsSettled m
