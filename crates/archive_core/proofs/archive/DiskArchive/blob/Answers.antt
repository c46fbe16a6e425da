use Rattle.std.proofs.Common.{◌≡◌, ℕ, sym, subst, slice_get, Option, Some}
use Rattle.std.proofs.lemmas.Option.{slice_get_within}
use Rattle.store_finding.specs.Kept.{StoreState, IsStoreWith}
use Rattle.archive_core.specs.Numbers.{IsBlobIndex}
use Rattle.archive_core.proofs.ByBlob.{blob-gives, blob-refuses}
use Rattle.archive_core.proofs.Standing.{store_keeps}
use Rattle.archive_core.proofs.archive.DiskArchive.blob.Goals as goal

pub text-requires : goal.text-requires
text-requires g c = record { there = slice_get_within c.self.inside.store.entries c.in-Some.place c.in-Some.ensures.known.0 (subst (λ (v : StoreState). slice_get v.entries c.in-Some.place ≡ Some c.in-Some.ensures.known.0) (sym c.self.view_is) c.in-Some.ensures.known.1) }

pub returns-in_default-clause-blob : goal.returns-in_default-clause-blob
returns-in_default-clause-blob g c = λ a cache own.
    subst (λ (o : Option ℕ). IsBlobIndex a.config.form a.entries c.args.id.now o) c.in_default.is (c.blob_index.ensures.index a (store_keeps c.args.self.now cache a (g.D.Disk.content c.args.disk.now) own))

pub returns-in-Ok-clause-blob : goal.returns-in-Ok-clause-blob
returns-in-Ok-clause-blob g c = λ a cache own.
    let k = g.D.Disk.content c.args.disk.now in
    blob-gives a c.args.id.now c.in-Some.place c.args.into.now c.text.new.into (c.in-Some.ensures.index a (store_keeps c.args.self.now cache a k own))
    (c.in-Ok.ensures.archive a cache (subst (λ (v : StoreState). IsStoreWith v cache a k) (sym c.self.view_is) own))

pub returns-in-Err-clause-blob : goal.returns-in-Err-clause-blob
returns-in-Err-clause-blob g c = λ a cache own.
    blob-refuses a c.args.id.now c.in-Some.place c.args.into.now c.text.new.into c.in-Err.refusal
    (c.in-Err.ensures.archive a cache (subst (λ (v : StoreState). IsStoreWith v cache a (g.D.Disk.content c.args.disk.now)) (sym c.self.view_is) own))
