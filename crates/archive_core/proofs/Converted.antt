-- An engine that converted its archive.
use Rattle.std.specs.Prelude.{◌≡◌, ◌↔◌, ℕ, true, false, List, [], Option, Result, Ok, Err, OnOk, refl}
use Rattle.std.proofs.Common.{◌∙◌, sym, ap, subst, inl}
use Rattle.std.proofs.lemmas.Bool.{false≢true}
use Rattle.arch_base.specs.declared.ids.Form.TheVariants.{Sha256}
use Rattle.disk_model.specs.declared.disk.Disk.{Ghosts as Disk}
use Rattle.disk_model.specs.Disk.{Content, WhereTold}
use Rattle.arch_model.specs.Archives.{Archive}
use Rattle.arch_model.specs.declared.opening.OpenRefusal.{OpenRefusal}
use Rattle.store_finding.specs.Kept.{IsStoreWith, StoreState}
use Rattle.convert_planning.specs.Converting.{converted}
use Rattle.epoch_file.specs.Runs.{OnlyReads}
use Rattle.epoch_store.specs.Converting.{CollidesAs, ConvertsAny, UnlessFaulted}
use Rattle.epoch_store.specs.Commands.{StoreHasSizes}
use Rattle.epoch_store.specs.Promises.{OpensArchive}
use Rattle.epoch_store.specs.declared.convert_refusal.ConvertRefusal.{ConvertRefusal}
use Rattle.epoch_store.specs.declared.convert_refusal.ConvertRefusal.TheVariants as refusal
use Rattle.archive_core.specs.Converting.{EngineAnswers, EngineConverts, IsForgotten, ThenConverts, needs_opening_then}
use Rattle.archive_core.specs.Engines.{FilesAreWith, HoldsArchive, OnlyReadsOn, Owning, SizesUnless, is_ready, unchanged-is, view_fresh}

-- A refusal after which nothing has to be reopened only read.
untouched_only : (P : Type 0) (why : ConvertRefusal) → needs_opening_then (Err why) ≡ false → UnlessFaulted {T = Unit {0}} (Err why) P → P
untouched_only P refusal.IsMirror ready p = p
untouched_only P refusal.Already ready p = p
untouched_only P (refusal.Collision n) ready p = p
untouched_only P refusal.NoMemory ready p = p
untouched_only P refusal.DiskFault ready p = absurd (false≢true (sym ready))
untouched_only P (refusal.Damaged file at) ready p = absurd (false≢true (sym ready))
untouched_only P (refusal.Open why) ready p = p

module _ {D : Type 0} (g : Disk D) (old new : Owning D) (result : Result (Unit {0}) ConvertRefusal) (made : StoreState) (changes : ConvertsAny g old.disk new.disk old.view made Sha256 result) (kept : IsForgotten old.view made new.view result) (stale : new.stale ≡ needs_opening_then result) (views : new.views ≡ old.views) (fresh : old.stale ≡ false) where
  looked_by : (r : Result (Unit {0}) ConvertRefusal) → result ≡ r → needs_opening_then r ≡ false → OnlyReadsOn g old new
  looked_by (Ok done) is ready = absurd (false≢true (sym ready))
  looked_by (Err why) is ready =
      let only = untouched_only (OnlyReads g old.disk new.disk) why ready (subst (λ (r : Result (Unit {0}) ConvertRefusal). UnlessFaulted r (OnlyReads g old.disk new.disk)) is changes.untouched) in
      record {
        view_is = subst (IsForgotten old.view made new.view) is kept;
        views_are = views;
        stale_is = stale ∙ (ap needs_opening_then is ∙ (ready ∙ sym fresh));
        files = only.same;
        run = only.crash;
      }

  files_by : (a : Archive) → HoldsArchive g.content old a → (r : Result (Unit {0}) ConvertRefusal) → result ≡ r → OnOk r (FilesAreWith [] (converted Sha256 a) (g.content new.disk))
  files_by a held (Err why) is = tt
  files_by a held (Ok done) is =
      let all : ConvertsAny g old.disk new.disk old.view made Sha256 (Ok done) = subst (ConvertsAny g old.disk new.disk old.view made Sha256) is changes in
      (made, [], inl refl, all.done a held.0 held.1 tt, all.settled)

  -- Its disk has the sizes that its view names, unless it has to be reopened.
  pub sizes_after : WhereTold (StoreHasSizes old.view) (g.content old.disk) → SizesUnless new.stale new.view (g.content new.disk)
  sizes_after sizes = λ ready.
      let looked = looked_by result refl (sym stale ∙ ready) in
      subst (λ (k : Option Content). WhereTold (StoreHasSizes new.view) k) (sym (unchanged-is (g.content old.disk) (g.content new.disk) looked.files)) (subst (λ (v : StoreState). WhereTold (StoreHasSizes v) (g.content old.disk)) (sym looked.view_is) sizes)

  module _ (mirror : (result ≡ Err refusal.IsMirror) ↔ (old.view.root.config.mirror ≡ true)) (already : (result ≡ Err refusal.Already) ↔ ((old.view.root.config.mirror ≡ false) × (old.view.root.config.form ≡ Sha256)))
      (collision : (a : Archive) (cache : List ℕ) → IsStoreWith old.view cache a (g.content old.disk) → CollidesAs Sha256 a result) where
    pub engine_converts : EngineConverts g old new result
    engine_converts = record {
      mirror = mirror;
      already = already;
      collision = collision;
      made = made;
      changes = changes;
      stale = stale;
      looked = looked_by result refl;
      files = λ a held. files_by a held result refl;
    }

-- It was reopened first, or needn't be.
pub answers_after : {D : Type 0} (g : Disk D) (old mid new : Owning D) (opened : Result (Unit {0}) OpenRefusal) (result : Result (Unit {0}) ConvertRefusal) → (is_ready old ≡ true → (mid ≡ old)) → (is_ready old ≡ false → OpensArchive g old.disk mid.disk (view_fresh opened mid)) → opened ≡ Ok tt → EngineConverts g mid new result → EngineAnswers g old new result
answers_after {D} g old mid new opened result same opens ok converts = (
  λ ready. subst (λ (o : Owning D). EngineConverts g o new result) (same ready) converts,
  λ stale. record { mid = mid; opened = opened; opens = opens stale; goes_on = subst (λ (p : Result (Unit {0}) OpenRefusal). ThenConverts g mid new p result) (sym ok) converts },
)

pub answers_unopened : {D : Type 0} (g : Disk D) (old new : Owning D) (opened : Result (Unit {0}) OpenRefusal) (why : OpenRefusal) (result : Result (Unit {0}) ConvertRefusal) → (is_ready old ≡ true → ⊥) → (is_ready old ≡ false → OpensArchive g old.disk new.disk (view_fresh opened new)) → opened ≡ Err why → result ≡ Err (refusal.Open why) → EngineAnswers g old new result
answers_unopened g old new opened why result never opens err is = (
  λ ready. absurd (never ready),
  λ stale. record { mid = new; opened = opened; opens = opens stale; goes_on = subst (λ (p : Result (Unit {0}) OpenRefusal). ThenConverts g new new p result) (sym err) (is, refl) },
)
