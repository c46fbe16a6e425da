-- What is kept after a conversion has no entries.
use Rattle.std.specs.Prelude.{ℕ, Ok, Err}
use Rattle.std.proofs.Common.{◌∙◌, sym, ap, subst, List}
use Rattle.arch_base.specs.declared.ids.Form.TheVariants.{Sha256}
use Rattle.arch_model.specs.Archives.{Archive}
use Rattle.store_finding.specs.declared.entries.StoredEntry.{StoredEntry}
use Rattle.store_finding.specs.Indexes.{IndexesStored}
use Rattle.store_finding.specs.Kept.{IsStoreWith, StoreState}
use Rattle.store_finding.proofs.Indexes.{indexes_none}
use Rattle.epoch_store.specs.Converting.{CollidesAs, ConvertsAny}
use Rattle.archive_core.specs.Placing.{message_places, PlacesRise}
use Rattle.archive_core.proofs.archive.DiskArchive.convert.Goals as goal

pub invariant_of-self : goal.invariant_of-self
invariant_of-self g c =
    let none = ap (λ (v : StoreState). v.entries) c.forget.ensures in (
      subst (λ (es : List StoredEntry). IndexesStored es c.new.result) (sym none) (indexes_none c.new.result c.new.ensures.owners c.new.ensures.blobs),
      c.new-in-Ok.ensures.items ∙ sym (ap (message_places 0) none),
      subst PlacesRise (sym c.new-in-Ok.ensures.items) tt,
    )

pub returns-in-Ok-clause-collision : goal.returns-in-Ok-clause-collision
returns-in-Ok-clause-collision g c = subst (λ (v : StoreState). (a : Archive) (cache : List ℕ) → IsStoreWith v cache a (g.D.Disk.content c.args.disk.now) → CollidesAs {T = Unit {0}} Sha256 a (Ok tt)) c.self.view_is c.in-Ok.ensures.collision

pub returns-in-Ok-clause-changes : goal.returns-in-Ok-clause-changes
returns-in-Ok-clause-changes g c = (c.convert.new.self, subst (λ (v : StoreState). ConvertsAny g.D.Disk c.args.disk.now c.convert.new.disk v c.convert.new.self Sha256 (Ok tt)) c.self.view_is c.in-Ok.ensures.changes, c.forget.ensures)

pub returns-in-Err-clause-collision : goal.returns-in-Err-clause-collision
returns-in-Err-clause-collision g c = subst (λ (v : StoreState). (a : Archive) (cache : List ℕ) → IsStoreWith v cache a (g.D.Disk.content c.args.disk.now) → CollidesAs {T = Unit {0}} Sha256 a (Err c.in-Err.why)) c.self.view_is c.in-Err.ensures.collision
