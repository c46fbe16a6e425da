use Rattle.arch_model.specs.Keeping.{ending}
use Rattle.archive_fixtures.proofs.Causes.{never-caused}
use Rattle.archive_fixtures.proofs.failing_keep.FailingKeep.take.Goals as goal

pub returns-in-Text-clause-cause : goal.returns-in-Text-clause-cause
returns-in-Text-clause-cause c = never-caused _ (ending c.command.result) c.command.ensures.cause
