use Rattle.std.proofs.Common.{codes}
use Rattle.edge_io.proofs.Wording.{Says-then, Says-lost}
use Rattle.answer_lines.specs.Lines.{whole_line}
use Rattle.archive_cli.proofs.outcome.say_made.Goals as goal

pub returns-in_err-say-clause-said : goal.returns-in_err-say-clause-said
returns-in_err-say-clause-said g c = Says-lost (codes "made ") (whole_line c.args.name.now) _ _ _ _ _ c.from_residual.result c.from_residual.ensures.0 c.in_err-say.ensures.said

pub returns-clause-said : goal.returns-clause-said
returns-clause-said g c = Says-then (codes "made ") (whole_line c.args.name.now) _ _ _ _ _ _ _ _ c.in_ok-say.ensures.said (rw c.as_slice.ensures.value at c.say_line.ensures.said)
