use Rattle.std.proofs.Common.{codes}
use Rattle.answer_lines.specs.Lines.{whole_line}
use Rattle.archive_cli.specs.declared.status.Status.TheVariants as exit
use Rattle.archive_cli.proofs.Printed.{printed-said}
use Rattle.archive_cli.proofs.program.print_no_memory.Goals as goal

pub returns-clause-printed : goal.returns-clause-printed
returns-clause-printed g c = printed-said _ _ _ _ (whole_line (codes "12 no memory")) exit.Memory _ _ c.say_memory.ensures.said c.if_taken.ensures
