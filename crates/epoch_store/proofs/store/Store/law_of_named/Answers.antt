-- What always holds of a store.
use Rattle.std.proofs.Common.{subst}
use Rattle.store_finding.specs.Extents.{AreNamed}
use Rattle.store_finding.specs.Kept.{InEpochs, StoreState}
use Rattle.epoch_store.proofs.store.Store.law_of_named.Goals as goal

pub returns-clause-named : goal.returns-clause-named
returns-clause-named c = subst (λ (v : StoreState). AreNamed v.root v.entries) c.self.view_is c.self.invariant.2

pub returns-clause-low : goal.returns-clause-low
returns-clause-low c = subst (λ (v : StoreState). InEpochs v.entries) c.self.view_is c.self.invariant.1
