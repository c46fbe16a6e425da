-- The own entries so far are left out.
use Rattle.std.specs.Prelude.{◌≡◌, ◌≤◌}
use Rattle.epoch_store.specs.Adopting.{IsAdoptionOf, PlansSame}
use Rattle.epoch_store.proofs.AdoptedEpochs.{taking}
use Rattle.epoch_store.proofs.store.Store.drop_to.Given as goal

abbrev pub invariant-loop-at : goal.invariant-loop-at
invariant-loop-at l = record {
  most : l.at ≤ l.to;
  of : IsAdoptionOf l.self (taking l.planned l.at);
  same : l.planned.entries ≡ l.fn.planned.entries;
  plans : PlansSame l.self (taking l.fn.planned l.from) (taking l.planned l.at);
}
