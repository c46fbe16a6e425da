use Rattle.archive_cli.proofs.PlayedEvents.{plain-played}
use Rattle.archive_cli.proofs.laws.plain_is_transcript.Goals as goal

pub returns : goal.returns
returns c = plain-played c.plain_law.ensures
