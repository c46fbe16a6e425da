use Rattle.archive_cli.proofs.OneJob.{same-asked}
use Rattle.archive_cli.proofs.laws.words_ask_for_one_job.Goals as goal

pub returns : goal.returns
returns c = record { one = same-asked }
