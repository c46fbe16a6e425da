use Rattle.arch_model.proofs.Keepers.{untold-fits}
use Rattle.archive_fixtures.proofs.failing_keep.FailingKeepKeep.fresh.Goals as goal

pub returns-then-not-self-clause-found : goal.returns-then-not-self-clause-found
returns-then-not-self-clause-found c = λ s fits. absurd (untold-fits _ _ _ _ c.args.self.now s fits)

pub returns-in-Opening-clause-found : goal.returns-in-Opening-clause-found
returns-in-Opening-clause-found c = λ s fits. absurd (untold-fits _ _ _ _ c.args.self.now s fits)

pub returns-in-OpeningWithoutMemory-clause-found : goal.returns-in-OpeningWithoutMemory-clause-found
returns-in-OpeningWithoutMemory-clause-found c = λ s fits. absurd (untold-fits _ _ _ _ c.args.self.now s fits)

pub returns-in-OpeningWithoutArchive-clause-found : goal.returns-in-OpeningWithoutArchive-clause-found
returns-in-OpeningWithoutArchive-clause-found c = λ s fits. absurd (untold-fits _ _ _ _ c.args.self.now s fits)

pub returns-in-OpeningOfDamage-clause-found : goal.returns-in-OpeningOfDamage-clause-found
returns-in-OpeningOfDamage-clause-found c = λ s fits. absurd (untold-fits _ _ _ _ c.args.self.now s fits)

pub returns-in_default-clause-found : goal.returns-in_default-clause-found
returns-in_default-clause-found c = λ s fits. absurd (untold-fits _ _ _ _ c.args.self.now s fits)
