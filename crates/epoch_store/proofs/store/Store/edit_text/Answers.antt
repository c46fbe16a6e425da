-- The message in the place of the text.
use Rattle.std.proofs.Common.{rules, ◌≡◌, ◌+◌, ℕ, sym, ap, subst}
use Rattle.std.proofs.lemmas.Result.{on_ok_weaker}
use Rattle.arch_model.specs.Archives.{Archive, with_entry, without_entries}
use Rattle.arch_model.specs.Delivery.{new_epoch}
use Rattle.store_planning.specs.Planning.{KeepsPlanned, PlansArchive}
use Rattle.store_finding.specs.Kept.{InEpochs, StoreState}
use Rattle.epoch_store.proofs.CarriedOut.{kept_low}
use Rattle.epoch_store.proofs.Changing.{planned, unplanned}
use Rattle.epoch_file.specs.declared.refusal.StoreRefusal.TheVariants.{NoMemory}
use Rattle.epoch_store.proofs.Edited.{edit_low, edited_archive}
use Rattle.epoch_store.proofs.KeptFiles.{edit_files}
use Rattle.epoch_store.proofs.TextDamage.{entry_told}
use Rattle.epoch_store.proofs.store.Store.edit_text.Goals as goal

pub returns-in_err-planned-clause-changes : goal.returns-in_err-planned-clause-changes
returns-in_err-planned-clause-changes g c = unplanned c.plan_without.ensures.reads c.in_err-planned.field-0.0 (search rules) c.in_err-planned.ensures.undamaged (entry_told c.args.self.now (g.D.Disk.content c.args.disk.now) c.in_err-planned.field-0.0 c.in_err-planned.ensures.damage) (search rules) c.plan_without.ensures.fewest

pub plan_message-requires-clause-epochs : goal.plan_message-requires-clause-epochs
plan_message-requires-clause-epochs g c =
    let low : InEpochs c.args.self.now.entries = subst (λ (v : StoreState). InEpochs v.entries) c.self.view_is c.self.invariant.1 in
    kept_low c.args.self.now.entries c.in_ok-planned.planned.entries c.args.old.now low c.in_ok-planned.ensures.planned.kept

pub returns-in_err-plan_message-clause-changes : goal.returns-in_err-plan_message-clause-changes
returns-in_err-plan_message-clause-changes g c = unplanned c.plan_without.ensures.reads NoMemory (search rules) (λ a cache store. tt) tt (search rules) c.plan_without.ensures.fewest

pub carry_out-requires-clause-epochs : goal.carry_out-requires-clause-epochs
carry_out-requires-clause-epochs g c =
    let low : InEpochs c.args.self.now.entries = subst (λ (v : StoreState). InEpochs v.entries) c.self.view_is c.self.invariant.1 in
    edit_low c.args.self.now c.args.old.now c.args.text.now c.args.moment c.in_ok-planned.planned c.plan_message.new.planned low c.in_ok-planned.ensures.planned c.in_ok-plan_message.ensures.planned

pub returns-clause-changes : goal.returns-clause-changes
returns-clause-changes g c =
    let v = c.args.self.now in
    let k0 = g.D.Disk.content c.args.disk.now in
    let q = c.plan_message.new.planned in
    planned c.plan_without.ensures.reads q (c.self.inside.root.next + 1)
    (λ a b cache store made.
    let plans = edited_archive v c.requires.may.0 c.args.old.now c.args.text.now c.args.moment c.in_ok-planned.planned q k0 c.requires.may.1 c.requires.moment c.in_ok-planned.ensures.planned c.in_ok-planned.ensures.own c.in_ok-plan_message.ensures.planned made.number a cache made.gone store made.shown made.blob_is made.alone in
    subst (λ (to : Archive). PlansArchive v.root cache a to q (c.self.inside.root.next + 1)) (sym made.is) (subst (λ (u : StoreState). PlansArchive v.root cache a (with_entry (without_entries a made.gone) (new_epoch (without_entries a made.gone)) c.args.text.now c.args.moment) q (u.root.next + 1)) (sym c.self.view_is) plans))
    (search rules) c.plan_without.ensures.fewest c.carry_out.ensures.changes

pub returns-clause-kept_files : goal.returns-clause-kept_files
returns-clause-kept_files g c =
    let v = c.args.self.now in
    let q = c.plan_message.new.planned in
    let new = c.carry_out.new.self in
    let next_is : c.self.inside.root.next ≡ v.root.next = ap (λ (u : StoreState). u.root.next) c.self.view_is in
    on_ok_weaker c.carry_out.result (λ kept. edit_files v c.args.old.now c.in_ok-planned.planned c.in_ok-planned.ensures.planned c.args.text.now c.args.moment q c.in_ok-plan_message.ensures.planned new (subst (λ (n : ℕ). KeepsPlanned v q (n + 1) new) next_is kept))
    c.carry_out.ensures.kept
