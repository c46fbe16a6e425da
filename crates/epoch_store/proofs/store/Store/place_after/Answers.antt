-- The next epoch.
use Rattle.std.proofs.Common.{◌≤◌, ◌<◌, ◌+◌, arith, subst}
use Rattle.store_finding.specs.Kept.{StoreState}
use Rattle.epoch_store.proofs.EntryExtents.{up_to_later}
use Rattle.epoch_store.proofs.Placed.{place_next}
use Rattle.epoch_store.proofs.store.Store.place_after.Goals as goal

pub returns-clause-place : goal.returns-clause-place
returns-clause-place c =
    let end_ = c.end-end.result in
    let small = c.end-end.ensures.small in
    let other = c.if-end-eq-LAST_EPOCH.false in
    let below : end_.epoch < 63 = omega (arith, small, other) in
    place_next c.args.self.now.root c.args.planned.now end_ c.end-end.ensures.end c.planned_length-length.result c.planned_length.result c.planned_length-length.ensures c.planned_length.ensures below
    (subst (λ (v : StoreState). v.root.config.limit ≤ c.planned_length-length.result) c.self.view_is c.if-length-self.false)

pub returns-clause-last : goal.returns-clause-last
returns-clause-last c = λ lie.
    let epoch = c.end-end.result.epoch in
    up_to_later c.args.planned.now.entries epoch (epoch + 1) (omega arith) (c.end-end.ensures.last lie)
