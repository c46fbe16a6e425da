use Rattle.std.proofs.Common.{◌++◌, ◌∷◌, [], codes, decimal, append_assoc}
use Rattle.archive_cli.specs.declared.status.Status.TheVariants as exit
use Rattle.archive_cli.proofs.Printed.{printed-said}
use Rattle.archive_cli.proofs.program.print_bad.Goals as goal

pub returns-clause-printed : goal.returns-clause-printed
returns-clause-printed g c = rw append_assoc (printed-said _ _ _ _ (codes "bad script " ++ (decimal c.args.event ++ 10 ∷ [])) exit.Script _ _ c.say_number.ensures.said c.if_taken.ensures)
