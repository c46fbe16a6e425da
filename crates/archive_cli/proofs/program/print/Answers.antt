use Rattle.archive_cli.proofs.Printed.{printed-said}
use Rattle.archive_cli.proofs.program.print.Goals as goal

pub returns-clause-printed : goal.returns-clause-printed
returns-clause-printed g c = printed-said _ _ _ _ c.args.bytes.now c.args.status _ _ c.say.ensures.said c.if_taken.ensures
