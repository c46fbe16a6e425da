-- What a disk must hold to be brought to what a root names, and what is left of its files.
use Rattle.std.specs.Prelude.{◌≡◌, ◌≢◌, ◌≤◌, ℕ, false, Option, Some, None, IsSome, List, length, take}
use Rattle.std.specs.List.{Contains}
use Rattle.disk_model.specs.declared.name.FileName.{FileName}
use Rattle.disk_model.specs.Disk.{Content, Kept, bytes_of}
use Rattle.root_slots.specs.declared.root.Root.{Root}
use Rattle.root_slots.specs.RootName.{root_name}
use Rattle.root_slots.specs.Each.{EachRoot}
use Rattle.root_slots.specs.Slots.{Ready}
use Rattle.root_slots.specs.Spelling.{spelling}
use Rattle.root_change.specs.Names.{names_file, named_end}
use Rattle.root_change.specs.Texts.{Texts, EachFronts}

-- A file of at most n bytes with the same first n bytes as before. A missing file stays missing.
pub record Trimmed (n : ℕ) (old new : Kept) : Type 0 where
  pub front : take n (bytes_of new.seen) ≡ take n (bytes_of old.seen)
  pub short : length (bytes_of new.seen) ≤ n
  pub no_longer : length (bytes_of new.seen) ≤ length (bytes_of old.seen)
  pub none_made : old.seen ≡ None → new.seen ≡ None

-- Of some files those are gone that a root doesn't name, and the others have no more bytes than
-- count. All bytes that count are as they were, no file was created or grew, and the root file is
-- as it was.
pub record Tidied (which : FileName → Type 0) (root : Root) (old new : Content) : Type 0 where
  pub gone : (name : FileName) → which name → names_file root name ≡ false
      → (new name).seen ≡ None
  pub short : (name : FileName) → which name → name ≢ root_name
      → length (bytes_of (new name).seen) ≤ named_end root name
  pub fronts : (name : FileName) → take (named_end root name) (bytes_of (new name).seen)
      ≡ take (named_end root name) (bytes_of (old name).seen)
  pub no_longer : (name : FileName)
      → length (bytes_of (new name).seen) ≤ length (bytes_of (old name).seen)
  pub none_made : (name : FileName) → (old name).seen ≡ None → (new name).seen ≡ None
  pub root_same : (new root_name).seen ≡ (old root_name).seen

-- A disk may be brought to what a root names: a crash leaves files that stand for texts by it, and
-- these are the names of all files that are there.
pub record IsToTidy (root : Root) (free : ℕ) (texts : Texts) (names : List FileName) (k : Content)
    : Type 0 where
  pub roots : EachRoot (Ready free (spelling root)) (Some k)
  pub fronts : EachFronts root texts k
  pub all : (name : FileName) → IsSome (k name).seen → Contains names name

-- The same for a disk that tells its content.
abbrev pub ToTidy : Root → ℕ → Texts → List FileName → Option Content → Type 0
ToTidy root free texts names None = ⊥
ToTidy root free texts names (Some k) = IsToTidy root free texts names k
