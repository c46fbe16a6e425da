use Rattle.std.proofs.Common.{◌≡◌, ◌+◌, ◌-◌, ◌<◌, ◌∙◌, None, sym, ap, subst, length, refl}
use Rattle.arch_base.specs.declared.ids.Form.{Form}
use Rattle.arch_base.specs.declared.config.Config.{Config}
use Rattle.git_objects.specs.Objects.{blob_id_of}
use Rattle.std.proofs.lemmas.Option.{slice_get_within}
use Rattle.disk_model.specs.Moments.{LeavesOnly}
use Rattle.arch_model.specs.Archives.{Archive}
use Rattle.arch_model.specs.Delivery.{Done}
use Rattle.arch_model.specs.declared.answer.Answer.TheVariants as answer
use Rattle.mail_commits.specs.declared.ids.TextIds.{TextIds}
use Rattle.root_slots.proofs.OneRoots.{looks_one}
use Rattle.store_finding.specs.Kept.{StoreState, IsStoreWith}
use Rattle.epoch_store.specs.Commands.{RecoversEitherWith}
use Rattle.archive_core.specs.DamageTold.{TellsDamage}
use Rattle.archive_core.specs.Engines.{told-same}
use Rattle.archive_core.specs.Placing.{message_places, ends_place, PlacesRise}
use Rattle.archive_core.specs.Walks.{looks-same}
use Rattle.archive_core.proofs.Indexes.{form-is, indexes-ended}
use Rattle.archive_core.proofs.Removing.{named-at, removed-is, places-ended, written-back}
use Rattle.archive_core.proofs.RisingPlaces.{rise-ended}
use Rattle.archive_core.proofs.Standing.{store_keeps}
use Rattle.archive_core.proofs.TellingDamage.{misnamed-damage, store-damage}
use Rattle.archive_core.proofs.Unmoved.{if-error, if-damaged}
use Rattle.archive_core.proofs.archive.DiskArchive.end_message.Goals as goal

pub is_named-requires : goal.is_named-requires
is_named-requires g c = record { there = slice_get_within c.args.self.now.entries c.args.index c.requires.live.message.entry c.requires.live.message.there }

pub returns-then-not-is_named-clause-crash : goal.returns-then-not-is_named-clause-crash
returns-then-not-is_named-clause-crash g c = λ a cache store room shown.
    absurd (c.if-not-is_named.ensures.other refl (named-at c.args.self.now a c.args.number c.args.index c.args.text.now (store_keeps c.args.self.now cache a (g.D.Disk.content c.args.disk.now) store) c.requires.live shown))

pub returns-then-not-is_named-clause-done : goal.returns-then-not-is_named-clause-done
returns-then-not-is_named-clause-done g c = λ a cache store room shown.
    absurd (c.if-not-is_named.ensures.other refl (named-at c.args.self.now a c.args.number c.args.index c.args.text.now (store_keeps c.args.self.now cache a (g.D.Disk.content c.args.disk.now) store) c.requires.live shown))

pub invariant_of-self : goal.invariant_of-self
invariant_of-self g c =
    let ended : ends_place c.args.number c.as_mut_slice.result.now ≡ ends_place c.args.number (message_places 0 c.self.inside.store.entries) = ap (ends_place c.args.number) (c.as_mut_slice.ensures.value ∙ c.self.invariant.1) in
    let rise : PlacesRise c.as_mut_slice.result.now = subst PlacesRise (sym c.as_mut_slice.ensures.value) c.self.invariant.2 in
    let long : c.self.inside.places.len ≡ length c.end_place.new.places = sym (c.end_place.auto.places ∙ c.as_mut_slice.ensures.len) in
    let whole = written-back c.end_place.new.places _ c.self.inside.places.len long ∙ c.end_place.ensures rise in (
      indexes-ended c.self.inside.store c.remove_entry.new.self c.self.inside.index c.end_text.new.index c.args.number c.args.text.now c.self.invariant.0 c.end_text.ensures c.in-Ok.ensures.ended,
      whole ∙ ended ∙ places-ended c.self.inside.store c.remove_entry.new.self c.args.number c.args.text.now c.in-Ok.ensures.ended,
      subst PlacesRise (sym whole) (rise-ended 0 c.args.number c.as_mut_slice.result.now rise),
    )

pub returns-in-Ok-clause-crash : goal.returns-in-Ok-clause-crash
returns-in-Ok-clause-crash g c = λ a cache store room shown.
    let k = g.D.Disk.content c.args.disk.now in
    let is = removed-is c.args.self.now a c.args.number c.args.moment c.args.text.now (store_keeps c.args.self.now cache a k store) c.requires.writable shown in
    subst (λ (b : Archive). LeavesOnly g.D.Disk c.args.disk.now c.remove_entry.new.disk (RecoversEitherWith cache a b)) (sym (ap (λ (d : Done). d.archive) is))
    (c.in-Ok.ensures.changes.crash a _ cache (subst (λ (v : StoreState). IsStoreWith v cache a k) (sym c.self.view_is) store) (subst (λ (v : StoreState). v.root.sequence + 1 < 18446744073709551616) (sym c.self.view_is) room) (record { shown = shown; is = refl }))

pub returns-in-Ok-clause-done : goal.returns-in-Ok-clause-done
returns-in-Ok-clause-done g c = λ a cache store room shown.
    let k = g.D.Disk.content c.args.disk.now in
    let is = removed-is c.args.self.now a c.args.number c.args.moment c.args.text.now (store_keeps c.args.self.now cache a k store) c.requires.writable shown in
    record {
      answer_is = ap (λ (d : Done). d.answer) is
          ∙ ap (λ (f : Form). answer.Ok c.args.number (blob_id_of f c.args.text.now)) (sym (ap (λ (k : Config). k.form) c.config.ensures ∙ form-is c.args.self.now a (store_keeps c.args.self.now cache a k store)))
          ∙ ap (λ (i : TextIds). answer.Ok c.args.number i.blob) (sym c.text_ids-ids.ensures);
      store = subst (λ (b : Archive). IsStoreWith c.remove_entry.new.self cache b (g.D.Disk.content c.remove_entry.new.disk)) (sym (ap (λ (d : Done). d.archive) is))
          (c.in-Ok.ensures.changes.done a _ cache (subst (λ (v : StoreState). IsStoreWith v cache a k) (sym c.self.view_is) store) (subst (λ (v : StoreState). v.root.sequence + 1 < 18446744073709551616) (sym c.self.view_is) room) (record { shown = shown; is = refl }));
    }

pub returns-in-Err-clause-crash : goal.returns-in-Err-clause-crash
returns-in-Err-clause-crash g c = λ a cache store room shown.
    let k = g.D.Disk.content c.args.disk.now in
    let is = removed-is c.args.self.now a c.args.number c.args.moment c.args.text.now (store_keeps c.args.self.now cache a k store) c.requires.writable shown in
    subst (λ (b : Archive). LeavesOnly g.D.Disk c.args.disk.now c.remove_entry.new.disk (RecoversEitherWith cache a b)) (sym (ap (λ (d : Done). d.archive) is))
    (c.in-Err.ensures.changes.crash a _ cache (subst (λ (v : StoreState). IsStoreWith v cache a k) (sym c.self.view_is) store) (subst (λ (v : StoreState). v.root.sequence + 1 < 18446744073709551616) (sym c.self.view_is) room) (record { shown = shown; is = refl }))

pub returns-then-not-is_named-clause-read : goal.returns-then-not-is_named-clause-read
returns-then-not-is_named-clause-read g c = if-damaged c.args.self.now _ c.damaged.result ⊥ c.damaged.ensures

pub returns-in-Err-clause-read : goal.returns-in-Err-clause-read
returns-in-Err-clause-read g c = if-error c.in-Err.refusal c.answer_of.result ⊥ c.answer_of.ensures

pub returns-then-not-is_named-clause-crash_root : goal.returns-then-not-is_named-clause-crash_root
returns-then-not-is_named-clause-crash_root g c =
    let disk = c.args.disk.now in
    let looks = looks-same g.D.Disk g.met.D.Disk.only_now disk in
    (None, looks_one g.D.Disk (1 - c.args.self.now.slot) None disk disk looks.crash)

pub returns-then-not-is_named-clause-damage : goal.returns-then-not-is_named-clause-damage
returns-then-not-is_named-clause-damage g c =
    misnamed-damage c.args.self.now c.args.index c.args.text.now c.damaged.result (g.D.Disk.content c.args.disk.now) c.requires.text (c.if-not-is_named.ensures.other refl) c.damaged.ensures

pub returns-in-Err-clause-damage : goal.returns-in-Err-clause-damage
returns-in-Err-clause-damage g c =
    let k = g.D.Disk.content c.args.disk.now in
    subst (λ (v : StoreState). TellsDamage v k c.answer_of.result) c.self.view_is
    (store-damage c.self.inside.store k k c.in-Err.refusal c.answer_of.result c.answer_of.ensures (told-same k) c.in-Err.ensures.changes.damage)

pub damaged-requires : goal.damaged-requires
damaged-requires g c = record { there = slice_get_within c.args.self.now.entries c.args.index c.requires.live.message.entry c.requires.live.message.there }
