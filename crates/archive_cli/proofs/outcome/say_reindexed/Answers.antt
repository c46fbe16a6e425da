use Rattle.std.proofs.Common.{append_assoc}
use Rattle.archive_cli.proofs.outcome.say_reindexed.Goals as goal

pub returns-clause-said : goal.returns-clause-said
returns-clause-said g c = rw append_assoc (rw c.from.ensures at c.say_number.ensures.said)
