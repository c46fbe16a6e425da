-- The entry of a line is planned.
use Rattle.std.proofs.Common.{◌≡◌, ◌∙◌, ◌++◌, ◌∷◌, [], List, ℕ, Some, get_or, rules, sym, ap, subst}
use Rattle.disk_model.specs.declared.name.FileKind.TheVariants as kind
use Rattle.root_change.specs.Rewriting.{plan_of}
use Rattle.root_slots.specs.Valid.{no_place}
use Rattle.std.proofs.lemmas.Result.{on_ok_weaker}
use Rattle.root_slots.specs.Slots.{slot_number}
use Rattle.arch_model.specs.Archives.{Entry}
use Rattle.git_objects.specs.Objects.{blob_id_of}
use Rattle.store_finding.specs.Kept.{StoreState, stored_at}
use Rattle.store_planning.specs.Epochs.{AreEpochsReady}
use Rattle.store_planning.specs.Planning.{AreValid, Planning}
use Rattle.store_planning.specs.declared.next.NextPlace.{NextPlace}
use Rattle.epoch_store.specs.AdoptedLines.{PlansLine, end_if}
use Rattle.epoch_store.specs.Adopting.{entry_of_line}
use Rattle.epoch_store.specs.Commands.{EntriesEndAt}
use Rattle.epoch_store.proofs.AddedEntries.{end_long, line_planned}
use Rattle.epoch_store.proofs.store.Store.plan_line.Goals as goal

pub returns : goal.returns
returns c =
    let root = c.self.inside.root in
    let v : StoreState = record { root = root; slot = slot_number c.self.inside.slot; entries = c.self.inside.entries.items } in
    let old = c.args.planned.now in
    let line = c.args.line.now in
    let text = c.args.text.now in
    let long = c.in_ok-length.length in
    let parent = c.parent_in-parent.result in
    let stored = c.new_entry-stored.result in
    let ready = subst (λ (u : StoreState). AreEpochsReady u.root old) (sym c.self.view_is) c.requires.ready in
    let long_is = subst (λ (u : StoreState). long ≡ end_if (get_or u.root.epochs line.epoch no_place).length (plan_of old.plans kind.Epoch line.epoch)) (sym c.self.view_is) c.in_ok-length.ensures.end ∙ end_long root old.plans line.epoch in
    let piece_is = c.as_slice.ensures ∙ c.in_ok-piece.ensures.piece in
    let id_is = c.in_ok-id.ensures ∙ ap (λ (i : List ℕ). Some i) (sym c.new_entry-stored.ensures.id) in
    let place : NextPlace = record { epoch = line.epoch; generation = 0; length = long; parent = parent } in
    let after = subst
    (λ (u : StoreState). (before : List Entry) → EntriesEndAt u.root.config.form before place → stored ≡ stored_at u.root.config.form before (entry_of_line line text))
    (sym c.self.view_is) c.new_entry-stored.ensures.after in
    let blob_is = subst (λ (u : StoreState). stored.seen.blob ≡ blob_id_of u.root.config.form text) (sym c.self.view_is) c.new_entry-stored.ensures.blob in
    on_ok_weaker c.push_entry.result
    (λ pushed. subst (λ (u : StoreState). PlansLine u.root old line text c.push_entry.new.self) c.self.view_is
    (line_planned root old line text parent long c.as_slice.result.now stored _ c.requires.epoch c.requires.later ready long_is c.in_ok-length.ensures.short c.parent_in-parent.ensures piece_is after c.in_ok-append.ensures.valid.0
    (subst AreValid (ap (λ (p : Planning). p.plans) c.in_ok-append.ensures.appended) c.in_ok-append.ensures.valid.1) c.new_entry-stored.ensures.epoch c.new_entry-stored.ensures.lies (search rules) c.push_entry.new.self (pushed ∙ ap (λ (p : Planning). record { plans = p.plans; entries = p.entries ++ stored ∷ []; gone = p.gone; current = p.current; form = p.form }) c.in_ok-append.ensures.appended)
    c.new_entry-stored.ensures.kind c.new_entry-stored.ensures.number c.new_entry-stored.ensures.moment blob_is id_is c.new_entry-stored.ensures.content))
    c.push_entry.ensures
