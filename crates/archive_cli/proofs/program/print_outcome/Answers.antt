use Rattle.answer_lines.specs.Lines.{whole_line}
use Rattle.archive_cli.specs.Outcomes.{outcome_line, status_of}
use Rattle.archive_cli.proofs.Printed.{printed-said}
use Rattle.archive_cli.proofs.program.print_outcome.Goals as goal

pub returns-clause-printed : goal.returns-clause-printed
returns-clause-printed g c = printed-said _ _ _ _ (whole_line (outcome_line c.args.outcome.now)) (status_of c.args.outcome.now) _ _ c.say.ensures.said (rw c.status.ensures at c.if_taken.ensures)
