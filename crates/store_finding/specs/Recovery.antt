-- Which files stand for an archive.
use Rattle.std.specs.Prelude.{◌≡◌, ◌+◌, ◌-◌, ◌<◌, ◌≤◌, ◌==◌, ℕ, zero, suc, List, [], ◌∷◌, length, get_or, Option, Some, None, if◌then◌else◌}
use Rattle.std.specs.List.{flat_map}
use Rattle.arch_base.specs.declared.ids.Form.{Form}
use Rattle.disk_model.specs.declared.name.FileKind.TheVariants as kind
use Rattle.disk_model.specs.Disk.{Files}
use Rattle.disk_model.specs.Sizes.{epoch_count}
use Rattle.git_objects.specs.Objects.{blob_id_of}
use Rattle.arch_model.specs.Archives.{Entry, Archive, messages, in_epoch}
use Rattle.arch_model.specs.Epochs.{epoch_bytes}
use Rattle.number_map.specs.declared.line.Record.{Record}
use Rattle.number_map.specs.Records.{record_bytes, zero_id}
use Rattle.root_slots.specs.declared.root.Root.{Root}
use Rattle.root_slots.specs.RootName.{root_name}
use Rattle.root_slots.specs.Slots.{IsShutFile}
use Rattle.root_slots.specs.Valid.{IsRoot, RootFits, no_place}
use Rattle.root_change.specs.Texts.{StandsFor, IsExact}
use Rattle.root_change.specs.Parts.{Parts, texts_of}
use Rattle.arch_model.specs.Validity.{IsArchive}

-- The first of some entries with a number, if there is one.
abbrev pub entry_of : List Entry → ℕ → Option Entry
entry_of [] n = None
entry_of (e ∷ es) n = if e.number == n then Some e else entry_of es n

-- The record of a number in a form: the epoch and the blob id of its message, or that it has none.
abbrev pub record_for : Form → ℕ → Option Entry → Record
record_for form n None = record { number = n; epoch = 4294967295; blob = zero_id form }
record_for form n (Some e) = record { number = n; epoch = e.epoch; blob = blob_id_of form e.text }

-- The records in a form of `count` numbers from one on.
abbrev pub records_from : Form → List Entry → ℕ → ℕ → List Record
records_from form entries n zero = []
records_from form entries n (suc count) =
    record_for form n (entry_of entries n) ∷ records_from form entries (n + 1) count

-- The records of an archive: one for each number below the next one, of its message, live or not.
abbrev pub records_of : Archive → List Record
records_of a = records_from a.config.form (messages a.entries) 1 (a.next - 1)

-- The bytes of the map of an archive.
abbrev pub map_bytes : Archive → List ℕ
map_bytes a = flat_map record_bytes (records_of a)

-- The bytes of an epoch of an archive.
abbrev pub bytes_in : Archive → ℕ → List ℕ
bytes_in a e = epoch_bytes a.config.form (in_epoch a.entries e)

-- The parts of an archive, with these bytes of a cache.
abbrev pub parts_of : Archive → List ℕ → Parts
parts_of a cache kind.Root n = []
parts_of a cache kind.Map n = if n == 0 then map_bytes a else []
parts_of a cache kind.Epoch n = bytes_in a n
parts_of a cache kind.Cache n = if n == 0 then cache else []

-- A root names an archive: it has its settings and next number, and the lengths of its epochs; the
-- length of its map follows from the next number.
pub record NamesArchive (root : Root) (a : Archive) : Type 0 where
  pub is_root : IsRoot root
  pub fits : RootFits root
  pub config : root.config ≡ a.config
  pub next : root.next ≡ a.next
  pub epochs : (e : ℕ) → e < epoch_count
      → (get_or root.epochs e no_place).length ≡ length (bytes_in a e)

-- Files stand for an archive, with a cache of these bytes, by a root that names them. The bytes of a
-- cache are those that are there, up to as many as the root says.
pub record RecoversArchiveBy (root : Root) (cache : List ℕ) (image : Files) (a : Archive) : Type 0 where
  pub valid : IsArchive a
  pub names : NamesArchive root a
  pub cache_fits : length cache ≤ root.cache.length
  pub stands : StandsFor root (texts_of root (parts_of a cache)) image

-- Files stand for an archive, with a cache of these bytes.
abbrev pub RecoversWith : List ℕ → Files → Archive → Type 0
RecoversWith cache image a = (root : Root) × RecoversArchiveBy root cache image a

-- Files stand for an archive, without a byte of a cache.
abbrev pub Recovers : Files → Archive → Type 0
Recovers image a = RecoversWith [] image a

-- Files stand for an archive, with a cache of these bytes, or for none: no slot is open.
abbrev pub RecoversSomeWith : List ℕ → Files → Option Archive → Type 0
RecoversSomeWith cache image None = IsShutFile (image root_name)
RecoversSomeWith cache image (Some a) = RecoversWith cache image a

-- The same without a byte of a cache.
abbrev pub RecoversSome : Files → Option Archive → Type 0
RecoversSome image a = RecoversSomeWith [] image a

-- Files are exactly those of an archive, with a cache of these bytes, by a root that names them.
pub record ExactBy (root : Root) (cache : List ℕ) (files : Files) (a : Archive) : Type 0 where
  pub valid : IsArchive a
  pub names : NamesArchive root a
  pub cache_fits : length cache ≤ root.cache.length
  pub exact : IsExact root (texts_of root (parts_of a cache)) files

-- Files are exactly those of an archive, with a cache of these bytes.
abbrev pub ExactWith : List ℕ → Files → Archive → Type 0
ExactWith cache files a = (root : Root) × ExactBy root cache files a

-- Files are exactly those of an archive, without a byte of a cache.
abbrev pub Exact : Files → Archive → Type 0
Exact files a = ExactWith [] files a
