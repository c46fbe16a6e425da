-- What an adoption plans is carried out.
use Rattle.std.proofs.Common.{◌≡◌, ◌∙◌, None, ℕ, List, refl, rules, sym, ap, subst, arith}
use Rattle.std.proofs.lemmas.Result.{on_ok_weaker}
use Rattle.disk_model.specs.declared.name.FileKind.{FileKind}
use Rattle.disk_model.specs.declared.name.FileKind.TheVariants as kind
use Rattle.root_change.specs.Rewriting.{plan_of}
use Rattle.store_finding.specs.Kept.{InEpochs, StoreState}
use Rattle.store_finding.specs.declared.entries.StoredEntry.{StoredEntry}
use Rattle.store_finding.proofs.FindingTold.{reads_none}
use Rattle.store_planning.specs.Epochs.{PlansMapOf}
use Rattle.epoch_store.specs.AdoptedLines.{ClosesAdoption}
use Rattle.epoch_store.specs.Adopting.{AdoptionState, IsAdoptionOf}
use Rattle.epoch_store.proofs.AdoptedArchive.{adopted_named, adopted_ready, adopts_archive, entries_are}
use Rattle.epoch_store.proofs.AdoptedEpochs.{taking}
use Rattle.epoch_store.proofs.Changing.{planned, unstarted}
use Rattle.epoch_store.proofs.store.Store.adopt.Goals as goal

pub close_rest-requires : goal.close_rest-requires
close_rest-requires g c = subst (IsAdoptionOf c.args.self.now) (sym c.adoption.view_is) c.requires.of

pub returns-in_err-close_rest-clause-changes : goal.returns-in_err-close_rest-clause-changes
returns-in_err-close_rest-clause-changes g c = unstarted {g = g.D.Disk} (g.met.D.Disk.only_now c.args.disk.now) refl (search rules)

pub returns-then-from-most-clause-changes : goal.returns-then-from-most-clause-changes
returns-then-from-most-clause-changes g c = unstarted {g = g.D.Disk} (g.met.D.Disk.only_now c.args.disk.now) refl refl

pub returns-in_err-map-clause-changes : goal.returns-in_err-map-clause-changes
returns-in_err-map-clause-changes g c = unstarted {g = g.D.Disk} (g.met.D.Disk.only_now c.args.disk.now) refl (search rules)

pub returns-in_err-push-clause-changes : goal.returns-in_err-push-clause-changes
returns-in_err-push-clause-changes g c = unstarted {g = g.D.Disk} (g.met.D.Disk.only_now c.args.disk.now) refl (search rules)

pub push-requires-clause-apart : goal.push-requires-clause-apart
push-requires-clause-apart g c =
    let mid = c.close_rest.new.planned in
    let plan = c.in_ok-map.map in
    let of = c.in_ok-map.ensures.planned.2 in
    let none = c.in_ok-close_rest.ensures.adding.ready.no_map 0 in
    subst (λ (k : FileKind). plan_of mid.plans k plan.number ≡ None) (sym of.kind) (subst (λ (n : ℕ). plan_of mid.plans kind.Map n ≡ None) (sym of.number) none)

pub push-requires-clause-valid : goal.push-requires-clause-valid
push-requires-clause-valid g c = c.in_ok-map.ensures.planned.2.valid

pub carry_out-requires-clause-ready : goal.carry_out-requires-clause-ready
carry_out-requires-clause-ready g c =
    let v = c.args.self.now in
    let mid = c.close_rest.new.planned in
    let map = c.in_ok-map.ensures.planned in
    let form_is = ap (λ (u : StoreState). u.root.config.form) c.self.view_is in
    adopted_ready v.root mid c.in_ok-map.map c.push.new.self c.args.next map.0 c.self.inside.root.config.form map.2 c.in_ok-push.ensures form_is c.in_ok-close_rest.ensures.adding.ready

pub carry_out-requires-clause-named : goal.carry_out-requires-clause-named
carry_out-requires-clause-named g c =
    let map = c.in_ok-map.ensures.planned in
    adopted_named c.args.self.now.root c.close_rest.new.planned c.in_ok-map.map c.push.new.self c.args.next map.0 c.self.inside.root.config.form map.2 c.in_ok-push.ensures c.in_ok-close_rest.ensures.adding.ready

pub carry_out-requires-clause-epochs : goal.carry_out-requires-clause-epochs
carry_out-requires-clause-epochs g c =
    let map = c.in_ok-map.ensures.planned in
    let low = c.requires.of.low in
    let was : c.close_rest.new.planned.entries ≡ c.args.adoption.planned.entries = c.in_ok-close_rest.ensures.entries ∙ ap (λ (s : AdoptionState). s.planned.entries) c.adoption.view_is in
    subst InEpochs (sym was ∙ entries_are c.args.self.now.root c.close_rest.new.planned c.in_ok-map.map c.push.new.self c.args.next map.0 c.self.inside.root.config.form map.2 c.in_ok-push.ensures) low

pub returns-clause-changes : goal.returns-clause-changes
returns-clause-changes g c =
    let v = c.args.self.now in
    let k0 = g.D.Disk.content c.args.disk.now in
    let first = c.args.adoption in
    let mid = taking c.close_rest.new.planned _ in
    let closed = subst (λ (s : AdoptionState). ClosesAdoption v s mid) c.adoption.view_is c.in_ok-close_rest.ensures in
    let map = subst (λ (u : StoreState). PlansMapOf u.root.config.form c.close_rest.new.planned.entries c.args.next c.in_ok-map.map) c.self.view_is
    (subst (λ (l : List StoredEntry). PlansMapOf c.self.inside.root.config.form l c.args.next c.in_ok-map.map) c.entries-2.ensures c.in_ok-map.ensures.planned) in
    planned (reads_none g.D.Disk c.args.disk.now (λ image. g.met.D.Disk.only_now c.args.disk.now image)) c.push.new.self c.args.next
    (λ a b cache store adopts. adopts_archive v first mid c.in_ok-map.map c.push.new.self c.args.next k0 closed map c.in_ok-push.ensures a b cache store adopts)
    refl (omega arith) c.carry_out.ensures.changes

pub returns-clause-adopted : goal.returns-clause-adopted
returns-clause-adopted g c =
    let map = c.in_ok-map.ensures.planned in
    let was : c.close_rest.new.planned.entries ≡ c.args.adoption.planned.entries = c.in_ok-close_rest.ensures.entries ∙ ap (λ (s : AdoptionState). s.planned.entries) c.adoption.view_is in
    let same = entries_are c.args.self.now.root c.close_rest.new.planned c.in_ok-map.map c.push.new.self c.args.next map.0 c.self.inside.root.config.form map.2 c.in_ok-push.ensures in
    on_ok_weaker c.carry_out.result (λ kept. kept.entries ∙ (sym same ∙ was)) c.carry_out.ensures.kept

pub returns-clause-next : goal.returns-clause-next
returns-clause-next g c = on_ok_weaker c.carry_out.result (λ kept. kept.root.next) c.carry_out.ensures.kept
