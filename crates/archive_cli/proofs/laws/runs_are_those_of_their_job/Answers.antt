use Rattle.archive_cli.proofs.OfJob.{runs-of-job}
use Rattle.archive_cli.proofs.laws.runs_are_those_of_their_job.Goals as goal

pub returns : goal.returns
returns c = record { both = runs-of-job }
