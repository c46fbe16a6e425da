-- What is planned is carried out.
use Rattle.std.proofs.Common.{refl, rules, ◌≡◌, ℕ, sym, ap, subst}
use Rattle.std.proofs.lemmas.Result.{on_ok_weaker}
use Rattle.arch_model.specs.Archives.{Archive, without_entries}
use Rattle.store_planning.specs.Planning.{KeepsPlanned, PlansArchive}
use Rattle.store_finding.specs.Kept.{InEpochs, StoreState}
use Rattle.epoch_store.proofs.CarriedOut.{kept_low, purged_archive}
use Rattle.epoch_store.proofs.Changing.{planned, unplanned}
use Rattle.store_finding.proofs.FrontParts.{store_keeps}
use Rattle.epoch_store.proofs.KeptFiles.{purge_keeps}
use Rattle.epoch_store.proofs.TextDamage.{entry_told}
use Rattle.epoch_store.proofs.store.Store.purge_text.Goals as goal

pub returns-in-Err-clause-changes : goal.returns-in-Err-clause-changes
returns-in-Err-clause-changes g c = unplanned c.plan_without.ensures.reads c.in-Err.refusal refl c.in-Err.ensures.undamaged (entry_told c.args.self.now (g.D.Disk.content c.args.disk.now) c.in-Err.refusal c.in-Err.ensures.damage) (search rules) c.plan_without.ensures.fewest

pub carry_out-requires-clause-epochs : goal.carry_out-requires-clause-epochs
carry_out-requires-clause-epochs g c = kept_low c.args.self.now.entries c.in-Ok.planned.entries c.args.blob.now (subst (λ (u : StoreState). InEpochs u.entries) c.self.view_is c.self.invariant.1) c.in-Ok.ensures.planned.kept

pub returns-clause-changes : goal.returns-clause-changes
returns-clause-changes g c =
    let v = c.args.self.now in
    let k0 = g.D.Disk.content c.args.disk.now in
    let p = c.in-Ok.planned in
    let next_is : c.self.inside.root.next ≡ v.root.next = ap (λ (u : StoreState). u.root.next) c.self.view_is in
    planned c.in-Ok.ensures.reads p c.self.inside.root.next
    (λ a b cache store made.
    let plans = purged_archive v cache a made.text p (store_keeps v cache a k0 store) (c.in-Ok.ensures.own a cache made.text store made.blob_is (made.number, made.shown)) in
    subst (λ (to : Archive). PlansArchive v.root cache a to p c.self.inside.root.next) (sym made.is) (subst (λ (n : ℕ). PlansArchive v.root cache a (without_entries a made.text) p n) (sym next_is) plans))
    (search rules) c.in-Ok.ensures.fewest c.carry_out.ensures.changes

pub returns-clause-kept_files : goal.returns-clause-kept_files
returns-clause-kept_files g c =
    let v = c.args.self.now in
    let p = c.in-Ok.planned in
    let new = c.carry_out.new.self in
    let next_is : c.self.inside.root.next ≡ v.root.next = ap (λ (u : StoreState). u.root.next) c.self.view_is in
    on_ok_weaker c.carry_out.result (λ kept. purge_keeps v c.args.blob.now p c.in-Ok.ensures.planned new (subst (λ (n : ℕ). KeepsPlanned v p n new) next_is kept)) c.carry_out.ensures.kept
