-- The own entries that are left were left out, and the last epoch was closed.
use Rattle.std.proofs.Common.{◌≡◌, ◌∙◌, ℕ, length, ap, subst, arith, rules}
use Rattle.store_finding.specs.Kept.{StoreState}
use Rattle.epoch_store.specs.Adopting.{IsAdoptionOf, PlansSame}
use Rattle.epoch_store.proofs.AdoptedEpochs.{adoption_apart, closes_adoption, taking}
use Rattle.epoch_store.proofs.store.Store.close_rest.Goals as goal

pub close_epochs-requires : goal.close_epochs-requires
close_epochs-requires c = adoption_apart c.args.self.now (taking c.drop_to.new.planned _) c.in_ok-drop_to.ensures.of

pub returns : goal.returns
returns c =
    let v = c.args.self.now in
    let first = taking c.args.planned.now c.args.taken in
    let mid = c.drop_to.new.planned in
    let count : c.len.result ≡ length c.self.inside.entries.items = search rules in
    let size : c.len.result ≡ length v.entries = count ∙ ap (λ (u : StoreState). length u.entries) c.self.view_is in
    let of = subst (λ (m : ℕ). IsAdoptionOf v (taking mid m)) size c.in_ok-drop_to.ensures.of in
    let same = subst (λ (m : ℕ). PlansSame v first (taking mid m)) size c.in_ok-drop_to.ensures.plans in
    let closed = c.in_ok-close_epochs.ensures in
    closes_adoption v (length v.entries) (omega arith) mid c.close_epochs.new.self closed.closed first same c.in_ok-drop_to.ensures.same of closed.none closed.apart
