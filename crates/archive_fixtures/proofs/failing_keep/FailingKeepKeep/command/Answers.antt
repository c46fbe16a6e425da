use Rattle.arch_model.specs.Keeping.{ending}
use Rattle.arch_model.proofs.Keepers.{untold-fits, cause-earlier, unopened-cause}
use Rattle.archive_fixtures.proofs.failing_keep.FailingKeepKeep.command.Goals as goal

pub returns-in-Ok-clause-done : goal.returns-in-Ok-clause-done
returns-in-Ok-clause-done c = λ s fits. absurd (untold-fits _ _ _ _ c.args.self.now s fits)

pub returns-in-Ok-clause-cause : goal.returns-in-Ok-clause-cause
returns-in-Ok-clause-cause c = cause-earlier _ _ _ (ending c.take.result) c.in-Ok.ensures.cause c.take.ensures.cause

pub returns-in-Err-clause-done : goal.returns-in-Err-clause-done
returns-in-Err-clause-done c = λ s fits. absurd (untold-fits _ _ _ _ c.args.self.now s fits)

pub returns-in-Err-clause-cause : goal.returns-in-Err-clause-cause
returns-in-Err-clause-cause c = rw c.answer.ensures (unopened-cause _ _ c.in-Err.refusal c.in-Err.ensures.cause)
