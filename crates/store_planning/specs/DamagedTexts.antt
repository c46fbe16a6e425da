-- The damage that a purge or an edit tells: which file it is in, and where.
use Rattle.std.specs.Prelude.{◌≡◌, ◌⊎◌, ◌<◌, ℕ, length, slice_get, Option, Some, Result, Ok, Err}
use Rattle.arch_base.specs.declared.ids.Form.{Form}
use Rattle.disk_model.specs.declared.name.FileKind.{FileKind}
use Rattle.disk_model.specs.declared.name.FileName.{FileName}
use Rattle.disk_model.specs.Disk.{Content, WhereTold, bytes_of}
use Rattle.root_slots.specs.declared.root.Root.{Root}
use Rattle.root_change.specs.Names.{place_of}
use Rattle.root_change.specs.Rewriting.{IsPartToPlan, file_by}
use Rattle.epoch_file.specs.Planning.{LacksText}
use Rattle.epoch_file.specs.declared.refusal.StoreRefusal.{StoreRefusal}
use Rattle.epoch_file.specs.declared.refusal.StoreRefusal.TheVariants.{Damaged}
use Rattle.store_finding.specs.declared.entries.StoredEntry.{StoredEntry}
use Rattle.store_finding.specs.Files.{epoch_file_of}
use Rattle.store_finding.specs.Reading.{HasText}
use Rattle.store_finding.specs.Kept.{StoreState}

-- A file and an offset are those of an entry that is kept. Where the disk tells its content, the text of
-- the entry isn't in its place.
pub record IsDamagedEntry (v : StoreState) (file : FileName) (at : ℕ) (content : Option Content)
    : Type 0 where
  pub index : ℕ
  pub entry : StoredEntry
  pub there : slice_get v.entries index ≡ Some entry
  pub file_is : file ≡ epoch_file_of v.root entry.epoch
  pub at_is : at ≡ entry.seen.at
  pub lacks : WhereTold (λ (k : Content). HasText v.root entry k → ⊥) content

-- A file is that of the map or of an epoch by a root, and an offset the number of bytes that count
-- there. Where the disk tells its content, the file has fewer.
pub record IsShortPart (root : Root) (file : FileName) (at : ℕ) (content : Option Content)
    : Type 0 where
  pub kind : FileKind
  pub number : ℕ
  pub part : IsPartToPlan kind number
  pub file_is : file ≡ file_by root kind number
  pub at_is : at ≡ (place_of root kind number).length
  pub shorter : WhereTold (λ (k : Content). length (bytes_of (k file).seen) < at) content

-- A file and an offset tell of an entry whose text isn't in its place, or of a file that is too short.
abbrev pub IsDamageIn : StoreState → FileName → ℕ → Option Content → Type 0
IsDamageIn v file at content = IsDamagedEntry v file at content ⊎ IsShortPart v.root file at content

-- What holds of the file and the offset of the damage that an error tells.
abbrev pub DamageBy : StoreRefusal → (FileName → ℕ → Type 0) → Type 0
DamageBy (Damaged file at) P = P file at
DamageBy _ P = Unit {0}

-- The same of the damage that a result tells.
abbrev pub IfDamaged : {T : Type 0} → Result T StoreRefusal → (FileName → ℕ → Type 0) → Type 0
IfDamaged (Ok given) P = Unit {0}
IfDamaged (Err why) P = DamageBy why P

-- The damage of an entry of a form in a file: the file, the entry's offset, and that its text isn't in
-- its place where the disk tells its content.
abbrev pub IsDamageOf : Form → FileName → StoredEntry → Option Content → FileName → ℕ → Type 0
IsDamageOf form own entry content file at = (file ≡ own) × (at ≡ entry.seen.at)
    × WhereTold (LacksText form own entry.seen) content
