-- The next epoch.
use Rattle.std.proofs.Common.{◌≤◌, ◌<◌, ◌+◌, sym, arith, subst, get_or}
use Rattle.root_slots.specs.Valid.{no_place}
use Rattle.store_finding.specs.Kept.{StoreState}
use Rattle.store_finding.specs.Extents.{AreUpToEpoch}
use Rattle.store_planning.specs.declared.next.NextPlace.{NextPlace}
use Rattle.epoch_store.proofs.Ends.{next_after}
use Rattle.epoch_store.proofs.EntryExtents.{up_to_later}
use Rattle.epoch_store.proofs.store.Store.next_place.Goals as goal

pub returns-clause-next : goal.returns-clause-next
returns-clause-next c = λ a keeps.
    let end_ = c.end-end.result in
    let small = c.end-end.ensures.small in
    let other = c.if-end-eq-LAST_EPOCH.false in
    let below : end_.epoch < 63 = omega (arith, small, other) in
    rw c.place_in-2.ensures
    (next_after c.args.self.now a end_ keeps (c.end-end.ensures.end a keeps) below (subst (λ (v : StoreState). v.root.config.limit ≤ (get_or v.root.epochs end_.epoch no_place).length) c.self.view_is c.if-place-self.false))

pub returns-clause-last : goal.returns-clause-last
returns-clause-last c =
    let epoch = c.end-end.result.epoch in
    let es = c.args.self.now.entries in
    subst (λ (p : NextPlace). AreUpToEpoch p.epoch es) (sym c.place_in-2.ensures) (up_to_later es epoch (epoch + 1) (omega arith) c.end-end.ensures.last)
