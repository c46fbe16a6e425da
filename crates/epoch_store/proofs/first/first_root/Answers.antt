-- The first root is valid.
use Rattle.std.proofs.Common.{sym, subst}
use Rattle.arch_base.specs.Configs.{IsConfig}
use Rattle.epoch_store.proofs.Making.{first_is_root}
use Rattle.epoch_store.proofs.first.first_root.Goals as goal

pub returns-clause-valid : goal.returns-clause-valid
returns-clause-valid c = first_is_root c.copy.result (subst IsConfig (sym c.copy.ensures) c.requires)
