-- One more message is planned.
use Rattle.std.proofs.Common.{◌≡◌, ◌∙◌, ◌++◌, List, [], ◌∷◌, ℕ, Some, refl, rules, sym, ap, subst}
use Rattle.root_slots.specs.Slots.{slot_number}
use Rattle.disk_model.specs.declared.name.FileKind.TheVariants as kind
use Rattle.root_change.specs.Rewriting.{plan_of}
use Rattle.store_planning.specs.Planning.{IsPlaceAfter, Planning, PlansEdit, length_after}
use Rattle.arch_model.specs.Archives.{Entry}
use Rattle.git_objects.specs.Objects.{blob_id_of}
use Rattle.git_objects.specs.declared.entry_kind.EntryKind.TheVariants.{Message}
use Rattle.epoch_store.specs.Commands.{EntriesEndAt}
use Rattle.store_finding.specs.Kept.{StoreState, stored_at}
use Rattle.store_planning.proofs.Messaged.{epoch_isnt_map, other_with}
use Rattle.epoch_store.proofs.MessagedArchive.{message_planned}
use Rattle.epoch_store.proofs.store.Store.plan_message.Goals as goal

pub returns-clause-planned : goal.returns-clause-planned
returns-clause-planned c =
    let v : StoreState = record { root = c.self.inside.root; slot = slot_number c.self.inside.slot; entries = c.self.inside.entries.items } in
    let old = c.args.planned.now in
    let p = c.place_after-place.result in
    let text = c.args.text.now in
    let stored = c.new_entry-stored.result in
    let place = subst (λ (u : StoreState). IsPlaceAfter u.root old p) (sym c.self.view_is) c.place_after-place.ensures.place in
    let long = subst (λ (u : StoreState). p.length ≡ length_after u.root old.plans p.epoch) (sym c.self.view_is) c.place_after-place.ensures.length in
    let piece_is = c.as_slice.ensures ∙ c.in_ok-piece.ensures.piece in
    let id_is = c.in_ok-id.ensures ∙ ap (λ (i : List ℕ). Some i) (sym c.new_entry-stored.ensures.id) in
    let after = subst
    (λ (u : StoreState). (before : List Entry) → EntriesEndAt u.root.config.form before p
    → stored ≡ stored_at u.root.config.form before (record { kind = Message; number = c.self.inside.root.next; epoch = p.epoch; text = text; moment = c.args.moment }))
    (sym c.self.view_is) c.new_entry-stored.ensures.after in
    let blob_is = subst (λ (u : StoreState). stored.seen.blob ≡ blob_id_of u.root.config.form text) (sym c.self.view_is) c.new_entry-stored.ensures.blob in
    let two = c.append_record.new.self in
    subst (PlansEdit c.args.self.now old text c.args.moment) (sym c.in_ok-push_entry.ensures)
    (subst (λ (u : StoreState). PlansEdit u old text c.args.moment (record { plans = two.plans; entries = two.entries ++ stored ∷ []; gone = two.gone; current = two.current; form = two.form })) c.self.view_is
    (message_planned v old c.append.new.self two p text c.args.moment c.as_slice.result.now c.in_ok-piece.made.blob stored place c.place_after-place.ensures.small long c.if-place-ge-MOST.false piece_is c.in_ok-piece.ensures.blob
    after c.in_ok-append.ensures.appended c.in_ok-append.ensures.valid.0 c.in_ok-append_record.ensures.appended c.in_ok-append_record.ensures.valid.1 two.plans two.entries two.gone two.current two.form refl
    (two.entries ++ stored ∷ []) refl c.new_entry-stored.ensures.kind c.new_entry-stored.ensures.number id_is blob_is c.new_entry-stored.ensures.content c.new_entry-stored.ensures.epoch
    _ c.new_entry-stored.ensures.lies (search rules) c.place_after-place.ensures.last))

pub append_record-requires : goal.append_record-requires
append_record-requires c =
    let old = c.args.planned.now in
    let epoch = c.place_after-place.result.epoch in
    let bytes = c.as_slice.result.now in
    let mid = c.append.new.self in
    record { map = (c.requires.map.0, ap (λ (q : Planning). plan_of q.plans kind.Map 0) c.in_ok-append.ensures.appended ∙ (other_with old.plans epoch bytes kind.Map 0 (λ k_is n_is. epoch_isnt_map k_is) ∙ c.requires.map.1)) }
