use Rattle.std.proofs.Common.{refl, ◌≡◌, ◌∙◌, ap, subst, sym, Ok, List}
use Rattle.store_finding.specs.declared.entries.StoredEntry.{StoredEntry}
use Rattle.store_finding.specs.Kept.{StoreState, KeepsArchive}
use Rattle.store_planning.specs.Dropping.{without_blob}
use Rattle.epoch_store.specs.Promises.{ChangesStore, Drops, Renews}
use Rattle.epoch_store.proofs.Changing.{unstarted}
use Rattle.archive_core.specs.Kept.{IndexesKept}
use Rattle.archive_core.specs.Placing.{message_places, PlacesRise, IsLiveWith}
use Rattle.archive_core.proofs.Dropping.{indexes-dropped, places-dropped, rises-without}
use Rattle.archive_core.proofs.WithoutText.{lost-live, message-agrees}
use Rattle.archive_core.proofs.archive.DiskArchive.drop_text.Goals as goal

pub returns-in_default-clause-changes : goal.returns-in_default-clause-changes
returns-in_default-clause-changes g c = unstarted {g = g.D.Disk} (g.met.D.Disk.only_now c.args.disk.now) refl refl

pub returns-in_default-places_without-clause-changes : goal.returns-in_default-places_without-clause-changes
returns-in_default-places_without-clause-changes g c = unstarted {g = g.D.Disk} (g.met.D.Disk.only_now c.args.disk.now) refl refl

pub invariant_of-self : goal.invariant_of-self
invariant_of-self g c =
    let gone = c.args.blob.now in
    let old : StoreState = c.self.inside.store in
    let indexed : IndexesKept (without_blob old.entries gone) c.in-Ok.index = subst (λ (es : List StoredEntry). IndexesKept (without_blob es gone) c.in-Ok.index) c.stored.ensures c.in-Ok.ensures in
    let placed : c.in-Ok-places_without.places.items ≡ message_places 0 (without_blob old.entries gone) = c.in-Ok-places_without.ensures ∙ ap (λ (es : List StoredEntry). message_places 0 (without_blob es gone)) c.stored-2.ensures in
    let rise : PlacesRise (message_places 0 old.entries) = subst PlacesRise c.self.invariant.1 c.self.invariant.2 in (
      indexes-dropped old c.purge_text.new.self c.in-Ok.index gone indexed c.in-Ok-purge_text.ensures.dropped,
      places-dropped old c.purge_text.new.self c.in-Ok-places_without.places.items gone placed c.in-Ok-purge_text.ensures.dropped,
      subst PlacesRise (sym placed) (rises-without gone old.entries 0 0 0 rise),
    )

pub returns-in-Ok-purge_text-clause-lives : goal.returns-in-Ok-purge_text-clause-lives
returns-in-Ok-purge_text-clause-lives g c = λ number a text keeps is blob_is.
    let v : StoreState = c.self.inside.store in
    let places = c.as_slice.result.now in
    let placed : places ≡ message_places 0 v.entries = c.as_slice.ensures.value ∙ c.self.invariant.1 in
    let found : IsLiveWith places v.entries c.args.blob.now c.live_with-live.result = subst (λ (es : List StoredEntry). IsLiveWith places es c.args.blob.now c.live_with-live.result) c.stored-3.ensures c.live_with-live.ensures in
    lost-live v a places c.live_with-live.result c.args.blob.now text (subst (λ (u : StoreState). KeepsArchive u a) (sym c.self.view_is) keeps) placed (message-agrees a number text keeps.valid is) blob_is found

pub returns-in-Ok-purge_text-clause-changes : goal.returns-in-Ok-purge_text-clause-changes
returns-in-Ok-purge_text-clause-changes g c =
    subst (λ (v : StoreState). ChangesStore g.D.Disk c.args.disk.now c.purge_text.new.disk v c.purge_text.new.self Renews (Drops c.args.blob.now) (Ok tt)) c.self.view_is
    c.in-Ok-purge_text.ensures.changes
