use Rattle.archive_cli.proofs.Printed.{printed-as, due-bad, due-none}
use Rattle.archive_cli.proofs.program.replay_text.Goals as goal

pub returns-in-Err-NoMemory-clause-printed : goal.returns-in-Err-NoMemory-clause-printed
returns-in-Err-NoMemory-clause-printed g c = printed-as _ _ _ _ _ _ _ c.print_no_memory.ensures.printed (due-none c.args.config c.args.text.now)

pub returns-in-Err-Bad-clause-printed : goal.returns-in-Err-Bad-clause-printed
returns-in-Err-Bad-clause-printed g c = printed-as _ _ _ _ _ _ _ (rw c.in-Err-Bad.field-0-is at c.print_bad.ensures.printed) (due-bad c.args.config c.args.text.now c.in-Err-Bad.event c.requires.short (rw c.in-Err-Bad.field-0-is at c.in-Err-Bad.ensures))
