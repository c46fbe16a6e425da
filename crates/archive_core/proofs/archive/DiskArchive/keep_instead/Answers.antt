use Rattle.std.proofs.Common.{refl, ◌≡◌, ◌∙◌, ◌++◌, ◌∷◌, [], true, List, Ok, length, sym, ap, subst, rules, ℕ}
use Rattle.git_objects.specs.Objects.{blob_id_of}
use Rattle.mail_commits.specs.declared.ids.TextIds.{TextIds}
use Rattle.store_finding.specs.declared.entries.StoredEntry.{StoredEntry}
use Rattle.store_finding.specs.Kept.{StoreState}
use Rattle.store_planning.specs.Dropping.{without_blob}
use Rattle.epoch_store.specs.Promises.{ChangesStore, Replaces, Renews}
use Rattle.epoch_store.proofs.Changing.{unstarted}
use Rattle.archive_core.specs.Kept.{IndexesKept, PutsText}
use Rattle.archive_core.specs.Placing.{message_places, PlacesRise}
use Rattle.archive_core.specs.declared.placing.MessagePlace.{MessagePlace}
use Rattle.archive_core.proofs.Dropping.{indexes-edited, places-edited, rises-without}
use Rattle.archive_core.proofs.Places.{place_of}
use Rattle.archive_core.proofs.archive.DiskArchive.keep_instead.Goals as goal

pub returns-in_default-clause-changes : goal.returns-in_default-clause-changes
returns-in_default-clause-changes g c = unstarted {g = g.D.Disk} (g.met.D.Disk.only_now c.args.disk.now) refl refl

pub returns-in_default-places_without-clause-changes : goal.returns-in_default-places_without-clause-changes
returns-in_default-places_without-clause-changes g c = unstarted {g = g.D.Disk} (g.met.D.Disk.only_now c.args.disk.now) refl refl

pub returns-then-not-may_follow-clause-changes : goal.returns-then-not-may_follow-clause-changes
returns-then-not-may_follow-clause-changes g c = unstarted {g = g.D.Disk} (g.met.D.Disk.only_now c.args.disk.now) refl refl

pub returns-in_default-push-clause-changes : goal.returns-in_default-push-clause-changes
returns-in_default-push-clause-changes g c = unstarted {g = g.D.Disk} (g.met.D.Disk.only_now c.args.disk.now) refl refl

pub invariant_of-self : goal.invariant_of-self
invariant_of-self g c =
    let gone = c.args.old.now in
    let old : StoreState = c.self.inside.store in
    let number : c.next_number-new.result ≡ old.root.next = c.next_number-new.ensures in
    let indexed : IndexesKept (without_blob old.entries gone) c.args.index = subst (λ (v : StoreState). IndexesKept (without_blob v.entries gone) c.args.index) (sym c.self.view_is) c.requires.index in
    let puts : PutsText c.args.index c.put_text.new.index c.args.text.now c.args.ids.now.blob old.root.next = subst (λ (n : ℕ). PutsText c.args.index c.put_text.new.index c.args.text.now c.args.ids.now.blob n) number c.in-Ok.ensures.ok in
    let placed : c.in-Ok-places_without.places.items ≡ message_places 0 (without_blob old.entries gone) = c.in-Ok-places_without.ensures ∙ ap (λ (es : List StoredEntry). message_places 0 (without_blob es gone)) c.stored.ensures in
    let count : c.count_without-entry.result ≡ length (without_blob old.entries gone) = c.count_without-entry.ensures ∙ ap (λ (es : List StoredEntry). length (without_blob es gone)) c.stored-2.ensures in
    let rise : PlacesRise (message_places 0 old.entries) = subst PlacesRise c.self.invariant.1 c.self.invariant.2 in
    let last : MessagePlace = record { number = c.next_number-new.result; entry = c.count_without-entry.result; live = true } in
    let more : c.push.new.self.items ≡ c.in-Ok-places_without.places.items ++ last ∷ [] = c.in-Ok-push.ensures.items in (
      indexes-edited old c.edit_text.new.self c.args.index c.put_text.new.index gone c.args.ids.now.blob c.args.text.now indexed (ap (λ (i : TextIds). i.blob) c.requires.may.ids_are ∙ ap (λ (v : StoreState). blob_id_of v.root.config.form c.args.text.now) (sym c.self.view_is)) puts c.in-Ok-edit_text.ensures.edited,
      more
          ∙ ap (λ (ps : List MessagePlace). ps ++ last ∷ []) placed
          ∙ ap (λ (n : ℕ). message_places 0 (without_blob old.entries gone) ++ place_of n c.count_without-entry.result true ∷ []) number
          ∙ places-edited old c.edit_text.new.self gone c.args.text.now c.count_without-entry.result count c.in-Ok-edit_text.ensures.edited,
      subst PlacesRise (sym more)
          (subst (λ (ps : List MessagePlace). PlacesRise (ps ++ last ∷ [])) c.as_slice.ensures.value
          (c.may_follow.ensures (search rules) c.count_without-entry.result (subst PlacesRise (sym (c.as_slice.ensures.value ∙ placed)) (rises-without gone old.entries 0 0 0 rise)))),
    )

pub returns-in-Ok-edit_text-clause-changes : goal.returns-in-Ok-edit_text-clause-changes
returns-in-Ok-edit_text-clause-changes g c =
    subst (λ (v : StoreState). ChangesStore g.D.Disk c.args.disk.now c.edit_text.new.disk v c.edit_text.new.self Renews (Replaces c.args.old.now c.args.text.now c.args.moment) (Ok tt)) c.self.view_is
    c.in-Ok-edit_text.ensures.changes
