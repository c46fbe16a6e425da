-- As its store does.
use Rattle.std.specs.Prelude.{ℕ, List}
use Rattle.std.proofs.Common.{subst}
use Rattle.arch_base.specs.declared.ids.Form.TheVariants.{Sha256}
use Rattle.arch_model.specs.Archives.{Archive}
use Rattle.store_finding.specs.Kept.{IsStoreWith, StoreState}
use Rattle.epoch_store.specs.Converting.{CollidesAs}
use Rattle.archive_core.proofs.counted.CountedArchive.convert.Goals as goal

pub returns-clause-collision : goal.returns-clause-collision
returns-clause-collision g c = subst (λ (v : StoreState). (a : Archive) (cache : List ℕ) → IsStoreWith v cache a (g.D.Disk.content c.args.disk.now) → CollidesAs Sha256 a c.convert.result) c.self.view_is c.convert.ensures.collision
