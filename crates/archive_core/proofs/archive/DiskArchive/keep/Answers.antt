use Rattle.std.proofs.Common.{refl, Ok, ◌≡◌, ◌∙◌, ◌++◌, ◌∷◌, [], ℕ, true, List, length, is_ok, sym, ap, subst, arith, rules}
use Rattle.git_objects.specs.Objects.{blob_id_of}
use Rattle.epoch_store.specs.Promises.{AddsMessage, Appends, ChangesStore}
use Rattle.store_finding.specs.Kept.{StoreState}
use Rattle.epoch_store.proofs.Changing.{unstarted}
use Rattle.mail_commits.specs.declared.ids.TextIds.{TextIds}
use Rattle.archive_core.specs.Kept.{PutsText}
use Rattle.archive_core.specs.Placing.{message_places, PlacesRise}
use Rattle.archive_core.specs.declared.placing.MessagePlace.{MessagePlace}
use Rattle.archive_core.proofs.Places.{place_of}
use Rattle.archive_core.proofs.Indexes.{indexes-added}
use Rattle.archive_core.proofs.Removing.{places-added}
use Rattle.archive_core.proofs.Standing.{pushed}
use Rattle.archive_core.proofs.archive.DiskArchive.keep.Goals as goal

pub returns-in_default : goal.returns-in_default
returns-in_default g c = record { changes = unstarted {g = g.D.Disk} (g.met.D.Disk.only_now c.args.disk.now) (search rules) refl }

pub returns-then-not-may_follow : goal.returns-then-not-may_follow
returns-then-not-may_follow g c = record { changes = unstarted {g = g.D.Disk} (g.met.D.Disk.only_now c.args.disk.now) (search rules) refl }

pub returns-in_err-put_text : goal.returns-in_err-put_text
returns-in_err-put_text g c = record { changes = unstarted {g = g.D.Disk} (g.met.D.Disk.only_now c.args.disk.now) (search rules) (search rules) }

pub invariant_of-self-2 : goal.invariant_of-self-2
invariant_of-self-2 g c =
    let number : c.next_number-number.result ≡ c.self.inside.store.root.next = c.next_number-number.ensures in
    let puts : PutsText c.self.inside.index c.put_text.new.index c.args.text.now c.args.ids.now.blob c.self.inside.store.root.next = subst (λ (n : ℕ). PutsText c.self.inside.index c.put_text.new.index c.args.text.now c.args.ids.now.blob n) number c.in_ok-put_text.ensures.ok in
    let room = c.in-Ok.ensures.ok in
    let more = pushed (is_ok c.push.result) c.reserve.new.self.items c.push.new.self.items (record { number = c.next_number-number.result; entry = length c.stored-entry.result.now; live = true }) c.push.ensures.items (c.push.ensures.succeeds (omega (arith, room))) in
    let count : length c.stored-entry.result.now ≡ length c.self.inside.store.entries = ap length c.stored-entry.ensures in (
      indexes-added c.self.inside.store c.deliver_entry.new.self c.self.inside.index c.put_text.new.index c.args.text.now c.args.ids.now.blob c.self.invariant.0 (ap (λ (i : TextIds). i.blob) c.requires.may.ids_are ∙ ap (λ (v : StoreState). blob_id_of v.root.config.form c.args.text.now) (sym c.self.view_is)) puts c.in_default-deliver_entry.ensures.added,
      more
          ∙ ap (λ (ps : List MessagePlace). ps ++ record { number = c.next_number-number.result; entry = length c.stored-entry.result.now; live = true } ∷ []) (c.reserve.ensures.items ∙ c.self.invariant.1)
          ∙ ap (λ (n : ℕ). message_places 0 c.self.inside.store.entries ++ place_of n (length c.stored-entry.result.now) true ∷ []) number
          ∙ places-added c.self.inside.store c.deliver_entry.new.self c.args.text.now (length c.stored-entry.result.now) count c.in_default-deliver_entry.ensures.added,
      subst PlacesRise (sym more)
          (subst (λ (ps : List MessagePlace). PlacesRise (ps ++ record { number = c.next_number-number.result; entry = length c.stored-entry.result.now; live = true } ∷ [])) c.as_slice.ensures.value
          (c.may_follow.ensures (search rules) (length c.stored-entry.result.now) (subst PlacesRise (sym (c.as_slice.ensures.value ∙ c.reserve.ensures.items)) c.self.invariant.2))),
    )

pub returns : goal.returns
returns g c = record {
  changes =
      subst (λ (v : StoreState). ChangesStore g.D.Disk c.args.disk.now c.deliver_entry.new.disk v c.deliver_entry.new.self Appends (AddsMessage c.args.text.now c.args.moment) (Ok tt)) c.self.view_is
      c.in_default-deliver_entry.ensures.changes;
}
