use Rattle.archive_cli.proofs.Printed.{printed-as, due-none}
use Rattle.archive_cli.proofs.playing.play_script.Goals as goal

pub returns-then-failed-gt0-clause-printed : goal.returns-then-failed-gt0-clause-printed
returns-then-failed-gt0-clause-printed g c = λ config held valid text script short. printed-as _ _ _ _ _ _ _ c.print_no_memory.ensures.printed (due-none config text)

pub returns-in-Ok-clause-printed : goal.returns-in-Ok-clause-printed
returns-in-Ok-clause-printed g c = λ config held valid text script short. c.print_played.ensures.printed config text c.args.events (c.play_over.ensures c.args.events c.in-Ok.ensures config held valid text script short) script short

pub returns-in-Err-clause-printed : goal.returns-in-Err-clause-printed
returns-in-Err-clause-printed g c = λ config held valid text script short. printed-as _ _ _ _ _ _ _ c.print_no_memory-in-Err.ensures.printed (due-none config text)
