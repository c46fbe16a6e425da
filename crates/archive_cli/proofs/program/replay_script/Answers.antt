use Rattle.std.proofs.Common.{[]}
use Rattle.archive_cli.proofs.Printed.{printed-as, due-none}
use Rattle.archive_cli.proofs.program.replay_script.Goals as goal

pub returns-in-Err-clause-printed : goal.returns-in-Err-clause-printed
returns-in-Err-clause-printed g c = λ text script short. printed-as _ _ _ _ _ _ _ c.print_no_memory.ensures.printed (due-none c.args.config text)

pub returns-in-Ok-clause-printed : goal.returns-in-Ok-clause-printed
returns-in-Ok-clause-printed g c = c.play_script.ensures.printed c.args.config ([], c.in-Ok.ensures.made.done, c.in-Ok.ensures.rows, c.in-Ok.ensures.made.settled) c.in-Ok.ensures.made.done.keeps.valid
