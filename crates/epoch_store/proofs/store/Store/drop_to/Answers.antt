-- One more own entry is left out.
use Rattle.std.proofs.Common.{◌≡◌, ◌∙◌, ◌<◌, ℕ, length, refl, ap, subst, arith}
use Rattle.store_finding.specs.Kept.{StoreState}
use Rattle.epoch_store.specs.Adopting.{IsAdoptionOf, PlansSame}
use Rattle.epoch_store.proofs.AdoptedEpochs.{adoption_apart, dropped_of, dropped_same, taking}
use Rattle.epoch_store.proofs.Purged.{entry_at}
use Rattle.epoch_store.proofs.store.Store.drop_to.Goals as goal

pub loop-at-init : goal.loop-at-init
loop-at-init c = record { most = c.requires.least; of = c.requires.of; same = refl; plans = λ k cache a es own plans. plans }

pub loop-at-preserved : goal.loop-at-preserved
loop-at-preserved c =
    let v = c.args.self.now in
    let i = c.loop-at.at in
    let e = c.index-entry.result.now in
    let so = c.loop-at.invariant in
    let size : length c.self.inside.entries.items ≡ length v.entries = ap (λ (u : StoreState). length u.entries) c.self.view_is in
    let below : i < length c.self.inside.entries.items = (let most = c.requires.most in omega (arith, c.loop-at-test.true, most, size)) in
    let here = entry_at v c.self.inside.root c.self.inside.slot c.self.inside.entries.items c.self.inside.entries.items i e c.self.view_is refl below c.index-entry.ensures in
    let did = c.in_ok-drop_entry.ensures in
    let old = c.loop-at.planned in
    let new = c.drop_entry.new.self in
    record {
      most = omega (arith, c.loop-at-test.true);
      of = dropped_of v i e here c.file_of.result c.file_of.ensures old new so.of did.same did.plans did.lies;
      same = did.same ∙ so.same;
      plans = λ k cache a es own plans. dropped_same v i e here c.file_of.result c.file_of.ensures old new did.dropped k cache a es own (so.plans k cache a es own plans);
    }

pub drop_entry-requires-clause-apart : goal.drop_entry-requires-clause-apart
drop_entry-requires-clause-apart c = adoption_apart c.args.self.now (taking c.loop-at.planned c.loop-at.at) c.loop-at.invariant.of

pub returns-clause-of : goal.returns-clause-of
returns-clause-of c =
    let so = c.loop-at.invariant in
    let most = so.most in
    let is : c.loop-at.at ≡ c.args.to = omega (arith, most, c.loop-at-test.false) in
    subst (λ (n : ℕ). IsAdoptionOf c.args.self.now (taking c.loop-at.planned n)) is so.of

pub returns-clause-plans : goal.returns-clause-plans
returns-clause-plans c =
    let so = c.loop-at.invariant in
    let most = so.most in
    let is : c.loop-at.at ≡ c.args.to = omega (arith, most, c.loop-at-test.false) in
    subst (λ (n : ℕ). PlansSame c.args.self.now (taking c.args.planned.now c.args.from) (taking c.loop-at.planned n)) is so.plans
