-- What converting an archive to another form of ids promises, and what it leaves of what is kept.
use Rattle.std.specs.Prelude.{◌≡◌, ◌+◌, ◌-◌, ◌<◌, ◌≤◌, ℕ, List, [], Some, None, Result, Ok, Err, OnErr, OnOk}
use Rattle.std.specs.List.{AllZip}
use Rattle.arch_base.specs.Configs.{with_form}
use Rattle.arch_base.specs.Counts.{RoseIf}
use Rattle.arch_base.specs.declared.ids.Form.{Form}
use Rattle.disk_model.specs.declared.disk.Disk.{Ghosts as Disk}
use Rattle.disk_model.specs.declared.name.FileName.{FileName}
use Rattle.disk_model.specs.Disk.{BothTold, WhereTold}
use Rattle.disk_model.specs.Moments.{LeavesOnly}
use Rattle.disk_model.specs.Sizes.{epoch_count}
use Rattle.disk_model.specs.Synced.{IsSettled}
use Rattle.arch_model.specs.Archives.{Archive}
use Rattle.root_slots.specs.declared.root.Root.{Root}
use Rattle.root_slots.specs.OneRoot.{BeginsRootIn}
use Rattle.root_slots.specs.Slots.{HasNewRoot}
use Rattle.root_slots.specs.Spelling.{spelling}
use Rattle.root_slots.specs.Valid.{no_place}
use Rattle.epoch_file.specs.Runs.{OnlyReads}
use Rattle.epoch_file.specs.declared.refusal.StoreRefusal.{StoreRefusal}
use Rattle.epoch_file.specs.declared.refusal.StoreRefusal.TheVariants as store
use Rattle.store_finding.specs.Kept.{IsStoreWith, StoreState}
use Rattle.store_planning.specs.DamagedTexts.{IsDamageIn}
use Rattle.convert_planning.specs.Collisions.{collision_of}
use Rattle.convert_planning.specs.Converting.{ConvertedOf, converted}
use Rattle.epoch_store.specs.Commands.{IsMadeAnew, RecoversOneOf, StoreHasSizes}
use Rattle.epoch_store.specs.declared.convert_refusal.ConvertRefusal.{ConvertRefusal}
use Rattle.epoch_store.specs.declared.convert_refusal.ConvertRefusal.TheVariants as refusal

-- The error of a conversion by that of a call on stored files.
abbrev pub refused_by : StoreRefusal → ConvertRefusal
refused_by store.DiskFault = refusal.DiskFault
refused_by store.NoMemory = refusal.NoMemory
refused_by (store.Damaged file at) = refusal.Damaged file at

-- How the answer of a conversion agrees with the collision of an archive in a form: after `Ok` there is
-- none, and `Collision` has its number. Nothing is damaged. The settings, a fault and want of memory come
-- before.
abbrev pub CollidesAs : {T : Type 0} → Form → Archive → Result T ConvertRefusal → Type 0
CollidesAs form a (Ok given) = collision_of form a ≡ None
CollidesAs form a (Err (refusal.Collision n)) = collision_of form a ≡ Some n
CollidesAs form a (Err (refusal.Damaged file at)) = ⊥
CollidesAs form a (Err _) = Unit {0}

-- The answer isn't that an archive could not be opened.
abbrev pub IsOfOpened : {T : Type 0} → Result T ConvertRefusal → Type 0
IsOfOpened (Err (refusal.Open why)) = ⊥
IsOfOpened _ = Unit {0}

-- What holds of an error of a conversion, unless the disk failed.
abbrev pub UnlessFaulted : {T : Type 0} → Result T ConvertRefusal → Type 0 → Type 0
UnlessFaulted (Ok given) P = Unit {0}
UnlessFaulted (Err refusal.DiskFault) P = Unit {0}
UnlessFaulted (Err _) P = P

-- What holds of the file and the offset of the damage that a conversion tells.
abbrev pub IfTellsDamage : {T : Type 0} → Result T ConvertRefusal → (FileName → ℕ → Type 0) → Type 0
IfTellsDamage (Err (refusal.Damaged file at)) P = P file at
IfTellsDamage _ P = Unit {0}

-- A root goes on from another one with ids of a form. Its sequence is one more, and the other settings
-- and the next number stay. The map is in a file of that generation, so is each epoch that has bytes, and
-- there is no cache.
pub record GoesOnConverted (form : Form) (old new : Root) : Type 0 where
  pub sequence : new.sequence ≡ old.sequence + 1
  pub config : new.config ≡ with_form form old.config
  pub next : new.next ≡ old.next
  pub map : new.map.generation ≡ new.sequence
  pub cache : new.cache ≡ no_place
  pub epochs : (e : ℕ) → e < epoch_count → IsMadeAnew new e

-- What a conversion leaves of what is kept: each entry, with ids of the form.
pub record ConvertsEntries (form : Form) (old new : StoreState) : Type 0 where
  pub entries : AllZip (ConvertedOf form) old.entries new.entries
  pub next : new.root.next ≡ old.root.next
  pub config : new.root.config ≡ with_form form old.root.config

-- An archive on a disk is converted to a form, if it is one of these. At each moment a crash leaves the
-- archive or the converted one, and after `Ok` the disk is the latter's own, without a cache. On any
-- disk, after `Ok` all that reads give is on the disk, the files that are named have their sizes, and the
-- root, in the other slot, goes on from the one before. An error leaves what is kept in memory; but for a
-- fault it comes before anything is written, where the disk tells its content. It fails only if the count
-- of faults rose. Damage is told with the place of an entry that was kept and whose text isn't there, or
-- with a file that is shorter than the root says. Nothing is opened.
pub record ConvertsStore {D : Type 0} (g : Disk D) (old new : D) (before after : StoreState)
    (form : Form) (May : List ℕ → Archive → Type 0) (result : Result (Unit {0}) ConvertRefusal)
    : Type 0 where
  pub crash : (a : Archive) (cache : List ℕ) → IsStoreWith before cache a (g.content old)
      → May cache a
      → LeavesOnly g old new (RecoversOneOf cache a [] (converted form a))
  pub done : (a : Archive) (cache : List ℕ) → IsStoreWith before cache a (g.content old)
      → May cache a
      → OnOk result (IsStoreWith after [] (converted form a) (g.content new))
  pub settled : OnOk result (WhereTold IsSettled (g.content new))
  pub sizes : OnOk result (WhereTold (StoreHasSizes after) (g.content new))
  pub goes_on : OnOk result (GoesOnConverted form before.root after.root)
  pub slot : OnOk result (after.slot ≡ 1 - before.slot)
  pub same : OnErr result (after ≡ before)
  pub opened : IsOfOpened result
  pub untouched : UnlessFaulted result (OnlyReads g old new)
  pub undamaged : (a : Archive) (cache : List ℕ) → IsStoreWith before cache a (g.content old)
      → IfTellsDamage result (λ (file : FileName) (at : ℕ). ⊥)
  pub cause : RoseIf (result ≡ Err refusal.DiskFault) (g.faults old) (g.faults new)
  pub count : g.reads old ≤ g.reads new
  -- The root file has the new root in its slot, whose gate is open, and is otherwise as it was.
  pub rooted : OnOk result
      (BothTold (HasNewRoot after.slot (spelling after.root)) (g.content old) (g.content new))
  -- At each moment, also after a fault, all its bytes are as before but those of that slot, into which at
  -- most one new root comes.
  pub crash_root : BeginsRootIn g (1 - before.slot) old new
  pub damage : IfTellsDamage result
      (λ (file : FileName) (at : ℕ). IsDamageIn before file at (g.content old))

-- The same of any archive.
abbrev pub ConvertsAny : {D : Type 0} → Disk D → D → D → StoreState → StoreState → Form
    → Result (Unit {0}) ConvertRefusal → Type 0
ConvertsAny g old new before after form result =
    ConvertsStore g old new before after form (λ (cache : List ℕ) (a : Archive). Unit {0}) result
