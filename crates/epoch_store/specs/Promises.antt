-- What making an archive, opening one and changing one promise, over the ghost members of a disk.
use Rattle.std.specs.Prelude.{◌≡◌, ◌+◌, ◌-◌, ◌<◌, ◌≤◌, ◌^◌, ℕ, List, [], Option, Some, None, Result, Err, IfOk, OnOk, OnErr}
use Rattle.arch_base.specs.Counts.{RoseIf}
use Rattle.arch_base.specs.declared.config.Config.{Config}
use Rattle.arch_base.specs.declared.ids.ObjectId.{ObjectId}
use Rattle.disk_model.specs.declared.disk.Disk.{Ghosts as Disk}
use Rattle.disk_model.specs.declared.name.FileName.{FileName}
use Rattle.disk_model.specs.Disk.{Content, BothTold, WhereTold}
use Rattle.disk_model.specs.Moments.{LeavesOnly}
use Rattle.disk_model.specs.Synced.{IsSettled}
use Rattle.git_objects.specs.Objects.{blob_id_of}
use Rattle.arch_model.specs.Archives.{Archive, empty_archive, live, messages, text_of, with_deletion, with_entry, without_entries}
use Rattle.arch_model.specs.Delivery.{collision, new_epoch}
use Rattle.arch_model.specs.declared.opening.OpenRefusal.{OpenRefusal}
use Rattle.arch_model.specs.declared.opening.OpenRefusal.TheVariants as opening
use Rattle.root_slots.specs.declared.root.Root.{Root}
use Rattle.root_slots.specs.OneRoot.{BeginsRootIn, RunsOneRoot}
use Rattle.root_slots.specs.Slots.{HasFirstRoot, HasNewRoot}
use Rattle.root_slots.specs.Spelling.{spelling}
use Rattle.epoch_file.specs.Runs.{OnlyReads}
use Rattle.epoch_file.specs.declared.refusal.StoreRefusal.{StoreRefusal}
use Rattle.epoch_file.specs.declared.refusal.StoreRefusal.TheVariants as refusal
use Rattle.epoch_store.specs.declared.refusal.InitRefusal.{InitRefusal}
use Rattle.epoch_store.specs.declared.refusal.InitRefusal.TheVariants as making
use Rattle.store_finding.specs.Files.{as_read}
use Rattle.epoch_store.specs.First.{MakingAnswers, MakingLeaves, RefusesToMake, first_root_of}
use Rattle.store_planning.specs.DamagedTexts.{IfDamaged, IsDamageIn}
use Rattle.epoch_store.specs.Opens.{RecoversOfWith, AllRecoverWith, ReadsWith, OpensFiles, OpensWell, SyncsFirst, SyncsAtMost, OnSynced}
use Rattle.store_planning.specs.Planning.{PlansUndamaged}
use Rattle.epoch_store.specs.Settling.{IsSettledBy}
use Rattle.store_finding.specs.Kept.{StoreState, IsDiskOf, IsStoreWith}
use Rattle.epoch_store.specs.Commands.{RootGoesOn, StoreHasSizes, RecoversOneOf, GoesOnAnew, UnlessFailed}
use Rattle.store_planning.specs.Dropping.{SeesNoDamage}

-- An archive without entries is made, of these settings. At each moment, also after a fault, a crash
-- leaves what it might have left before; if no slot was open, it may also leave no open slot, or the
-- archive by its first root and no other. The answer
-- is by the root file as it reads, and an error comes before anything is changed. After `Ok` the
-- disk is the archive's own, its root is the first one and in slot 0, and all that reads give is on
-- the disk. It fails only if the count of faults rose.
pub record MakesArchive {D : Type 0} (g : Disk D) (old new : D) (config : Config)
    (result : Result StoreState InitRefusal) : Type 0 where
  pub crash : LeavesOnly g old new (MakingLeaves config (g.content old))
  pub answer : WhereTold (MakingAnswers result) (g.content old)
  pub refused : RefusesToMake result (g.content old) (g.content new)
  pub done : IfOk result (λ (v : StoreState). WhereTold (IsDiskOf v (empty_archive config))
      (g.content new))
  pub settled : OnOk result (WhereTold IsSettled (g.content new))
  pub sizes : IfOk result (λ (v : StoreState). WhereTold (StoreHasSizes v) (g.content new))
  pub root : IfOk result (λ (v : StoreState). v.root ≡ first_root_of config)
  pub slot : IfOk result (λ (v : StoreState). v.slot ≡ 0)
  pub none : IfOk result (λ (v : StoreState). v.entries ≡ [])
  pub cause : RoseIf (result ≡ Err making.DiskFault) (g.faults old) (g.faults new)
  -- The root file has the first root, and is otherwise zeros.
  pub rooted : OnOk result (WhereTold (HasFirstRoot (spelling (first_root_of config)))
      (g.content new))

-- An opening begins no root: at each moment, also after a fault, all bytes of the root file are as before
-- but those of one slot, and no new root comes there. After `Ok` that is the slot that isn't current.
pub record OpensNoRoot {D : Type 0} (g : Disk D) (old new : D) (result : Result StoreState OpenRefusal)
    : Type 0 where
  pub slot : ℕ
  pub in_range : slot < 2
  pub other : IfOk result (λ (v : StoreState). slot ≡ 1 - v.slot)
  pub crash : RunsOneRoot g slot None old new

-- The archive on a disk is opened, with whatever cache. At each moment a crash leaves an archive
-- that might have been there before. The answer is by the files as they read, and no archive is
-- refused but for want of memory or a fault. Once the disk is synced, a crash leaves only the archive
-- as which the files read, or, where nothing can be opened, the files as they read. After `Ok` the disk
-- is the archive's own. Whatever it held, all bytes that count stay, no other file is left, no root is
-- committed, and all that reads give is on the disk. It fails only if the count of faults rose.
pub record OpensArchive {D : Type 0} (g : Disk D) (old new : D)
    (result : Result StoreState OpenRefusal) : Type 0 where
  pub crash : (may : List (Option Archive)) (cache : List ℕ)
      → AllRecoverWith cache may (g.content old)
      → LeavesOnly g old new (RecoversOfWith cache may)
  pub answer : WhereTold (λ (k : Content). OpensFiles (as_read k) result) (g.content old)
  pub done : (a : Archive) (cache : List ℕ) → ReadsWith cache a (g.content old)
      → IfOk result (λ (v : StoreState). IsStoreWith v cache a (g.content new))
  pub well : (a : Archive) (cache : List ℕ) → ReadsWith cache a (g.content old) → OpensWell result
  pub first : OnSynced result (SyncsFirst g old new)
  pub before : SyncsAtMost g old new
  pub settled : OnOk result (WhereTold IsSettled (g.content new))
  pub kept : IfOk result (λ (v : StoreState). BothTold (IsSettledBy v.root v.slot) (g.content old)
      (g.content new))
  pub sizes : IfOk result (λ (v : StoreState). WhereTold (StoreHasSizes v) (g.content new))
  pub cause : RoseIf (result ≡ Err opening.DiskFault) (g.faults old) (g.faults new)
  pub crash_root : OpensNoRoot g old new result

-- How a command changes the files of an archive: it appends to them, or writes some of them anew.
pub data WriteKind : Type 0 where
  Appends : WriteKind
  Renews : WriteKind

-- The cache after a command that was carried out. Files that are written anew leave none.
abbrev pub cache_by : WriteKind → List ℕ → List ℕ
cache_by Appends cache = cache
cache_by Renews cache = []

-- How the root goes on from one to the next.
abbrev pub GoesOnBy : WriteKind → Root → Root → Type 0
GoesOnBy Appends old new = RootGoesOn old new
GoesOnBy Renews old new = GoesOnAnew old new

-- What was done where nothing was written: nothing at all, or files were only read.
abbrev pub StaysBy : {D : Type 0} → WriteKind → Disk D → D → D → Type 0
StaysBy Appends g old new = new ≡ old
StaysBy Renews g old new =
    OnlyReads g old new

-- Where no damage is found: anywhere, if nothing is read, and else on a store's own disk.
abbrev pub UndamagedBy : {T : Type 0} → WriteKind → StoreState → Result T StoreRefusal
    → Option Content → Type 0
UndamagedBy Appends v result content = SeesNoDamage result
UndamagedBy Renews v result content = PlansUndamaged v result content

-- How often a command reads: never, or as often as it has to.
abbrev pub ReadsByKind : WriteKind → ℕ → ℕ → Type 0
ReadsByKind Appends before now = now ≡ before
ReadsByKind Renews before now = before ≤ now

-- The second archive is the first with one more message. No other text has the blob id of its text.
pub record AddsMessage (text : List ℕ) (arrived : ℕ) (a b : Archive) : Type 0 where
  pub alone : collision a.config.form a.entries text ≡ None
  pub is : b ≡ with_entry a (new_epoch a) text arrived

-- The second archive is the first with the deletion of a live number, which has this text.
pub record EndsMessage (number : ℕ) (text : List ℕ) (arrived : ℕ) (a b : Archive) : Type 0 where
  pub shown : text_of (live a.entries) number ≡ Some text
  pub is : b ≡ with_deletion a number (new_epoch a) text arrived

-- The second archive is the first without a text that has this blob id, which one of its messages has.
pub record Drops (blob : ObjectId) (a b : Archive) : Type 0 where
  pub number : ℕ
  pub text : List ℕ
  pub shown : text_of (messages a.entries) number ≡ Some text
  pub blob_is : blob_id_of a.config.form text ≡ blob
  pub is : b ≡ without_entries a text

-- The second archive is the first with a message in place of a live text that has this blob id. No other
-- text has the blob id of the message.
pub record Replaces (blob : ObjectId) (text : List ℕ) (arrived : ℕ) (a b : Archive) : Type 0 where
  pub number : ℕ
  pub gone : List ℕ
  pub shown : text_of (live a.entries) number ≡ Some gone
  pub blob_is : blob_id_of a.config.form gone ≡ blob
  pub alone : collision a.config.form (without_entries a gone).entries text ≡ None
  pub is : b ≡ with_entry (without_entries a gone) (new_epoch (without_entries a gone)) text arrived

-- A command makes a second archive of the one on a disk. While the root's sequence can be raised, at
-- each moment a crash leaves the first archive or the second, and after `Ok` the disk is the latter's
-- own. On any disk, after `Ok` all that reads give is on the disk, the files that are named have their
-- sizes, and the root, in the other slot, goes on from the one before. An error leaves what is kept in
-- memory; but for a fault it comes before anything is written, where the disk tells its content. It fails
-- only if the count of faults rose. Damage is told with the place of an entry that was kept and whose text
-- isn't there, or with a file that is shorter than the root says.
pub record ChangesStore {D : Type 0} (g : Disk D) (old new : D) (before after : StoreState)
    (way : WriteKind) (Makes : Archive → Archive → Type 0) (result : Result (Unit {0}) StoreRefusal)
    : Type 0 where
  pub crash : (a b : Archive) (cache : List ℕ) → IsStoreWith before cache a (g.content old)
      → before.root.sequence + 1 < 2 ^ 64 → Makes a b
      → LeavesOnly g old new (RecoversOneOf cache a (cache_by way cache) b)
  pub done : (a b : Archive) (cache : List ℕ) → IsStoreWith before cache a (g.content old)
      → before.root.sequence + 1 < 2 ^ 64 → Makes a b
      → OnOk result (IsStoreWith after (cache_by way cache) b (g.content new))
  pub settled : OnOk result (WhereTold IsSettled (g.content new))
  pub sizes : OnOk result (WhereTold (StoreHasSizes after) (g.content new))
  pub goes_on : OnOk result (GoesOnBy way before.root after.root)
  pub slot : OnOk result (after.slot ≡ 1 - before.slot)
  pub same : OnErr result (after ≡ before)
  pub untouched : UnlessFailed result (StaysBy way g old new)
  pub undamaged : UndamagedBy way before result (g.content old)
  pub cause : RoseIf (result ≡ Err refusal.DiskFault) (g.faults old) (g.faults new)
  pub count : ReadsByKind way (g.reads old) (g.reads new)
  -- The root file has the new root in its slot, whose gate is open, and is otherwise as it was.
  pub rooted : OnOk result
      (BothTold (HasNewRoot after.slot (spelling after.root)) (g.content old) (g.content new))
  -- At each moment, also after a fault, all its bytes are as before but those of that slot, into which at
  -- most one new root comes.
  pub crash_root : BeginsRootIn g (1 - before.slot) old new
  pub damage : IfDamaged result
      (λ (file : FileName) (at : ℕ). IsDamageIn before file at (g.content old))
