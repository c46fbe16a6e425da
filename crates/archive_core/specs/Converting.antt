-- What converting the archive of an engine promises.
use Rattle.std.specs.Prelude.{◌≡◌, ◌↔◌, ℕ, Bool, true, false, List, [], Result, Ok, Err, OnOk}
use Rattle.arch_base.specs.declared.ids.Form.TheVariants.{Sha256}
use Rattle.disk_model.specs.declared.disk.Disk.{Ghosts as Disk}
use Rattle.arch_model.specs.Archives.{Archive}
use Rattle.arch_model.specs.declared.opening.OpenRefusal.{OpenRefusal}
use Rattle.store_finding.specs.Kept.{IsStoreWith, StoreState}
use Rattle.convert_planning.specs.Converting.{converted, kept_store}
use Rattle.epoch_store.specs.Converting.{CollidesAs, ConvertsAny}
use Rattle.epoch_store.specs.Promises.{OpensArchive}
use Rattle.epoch_store.specs.declared.convert_refusal.ConvertRefusal.{ConvertRefusal}
use Rattle.epoch_store.specs.declared.convert_refusal.ConvertRefusal.TheVariants as refusal
use Rattle.archive_core.specs.Engines.{FilesAreWith, HoldsArchive, OnlyReadsOn, Owning, is_ready, view_fresh}

-- What is kept after a conversion: nothing of the entries after `Ok`, and otherwise all as before.
abbrev pub IsForgotten : {T : Type 0} → StoreState → StoreState → StoreState → Result T ConvertRefusal
    → Type 0
IsForgotten before made after (Ok given) = after ≡ kept_store made.root made.slot []
IsForgotten before made after (Err why) = after ≡ before

-- The engine has to be reopened after a conversion: after `Ok`, since its rows have the old ids, and
-- after a fault or damage.
abbrev pub needs_opening_then : Result (Unit {0}) ConvertRefusal → Bool
needs_opening_then (Ok done) = true
needs_opening_then (Err refusal.DiskFault) = true
needs_opening_then (Err (refusal.Damaged file at)) = true
needs_opening_then (Err why) = false

-- An engine that is ready converts its archive as a store does. After `Ok` the files are exactly those of
-- the archive with SHA-256 ids, if it held one.
pub record EngineConverts {D : Type 0} (g : Disk D) (old new : Owning D)
    (result : Result (Unit {0}) ConvertRefusal) : Type 0 where
  pub mirror : (result ≡ Err refusal.IsMirror) ↔ (old.view.root.config.mirror ≡ true)
  pub already : (result ≡ Err refusal.Already)
      ↔ ((old.view.root.config.mirror ≡ false) × (old.view.root.config.form ≡ Sha256))
  pub collision : (a : Archive) (cache : List ℕ) → IsStoreWith old.view cache a (g.content old.disk)
      → CollidesAs Sha256 a result
  pub made : StoreState
  pub changes : ConvertsAny g old.disk new.disk old.view made Sha256 result
  pub stale : new.stale ≡ needs_opening_then result
  pub looked : needs_opening_then result ≡ false → OnlyReadsOn g old new
  pub files : (a : Archive) → HoldsArchive g.content old a
      → OnOk result (FilesAreWith [] (converted Sha256 a) (g.content new.disk))

-- What follows an opening: the conversion, or its refusal.
abbrev pub ThenConverts : {D : Type 0} → Disk D → Owning D → Owning D → Result (Unit {0}) OpenRefusal
    → Result (Unit {0}) ConvertRefusal → Type 0
ThenConverts g mid new (Ok done) result = EngineConverts g mid new result
ThenConverts g mid new (Err why) result = (result ≡ Err (refusal.Open why)) × (new ≡ mid)

-- So does one that has to be reopened first: it was, or that was refused.
pub record ReopensFirst {D : Type 0} (g : Disk D) (old new : Owning D)
    (result : Result (Unit {0}) ConvertRefusal) : Type 0 where
  pub mid : Owning D
  pub opened : Result (Unit {0}) OpenRefusal
  pub opens : OpensArchive g old.disk mid.disk (view_fresh opened mid)
  pub goes_on : ThenConverts g mid new opened result

-- An engine converts its archive; if it has to be reopened, that comes first.
abbrev pub EngineAnswers : {D : Type 0} → Disk D → Owning D → Owning D
    → Result (Unit {0}) ConvertRefusal → Type 0
EngineAnswers g old new result = (is_ready old ≡ true → EngineConverts g old new result)
    × (is_ready old ≡ false → ReopensFirst g old new result)
