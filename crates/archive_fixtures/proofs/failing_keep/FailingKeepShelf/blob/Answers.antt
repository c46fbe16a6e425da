use Rattle.archive_fixtures.proofs.Causes.{never-read}
use Rattle.archive_fixtures.proofs.failing_keep.FailingKeepShelf.blob.Goals as goal

pub returns-clause-cause : goal.returns-clause-cause
returns-clause-cause c = never-read _ c.blob.result c.blob.ensures.cause
