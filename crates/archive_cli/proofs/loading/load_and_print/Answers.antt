use Rattle.std.proofs.Common.{◌∙◌}
use Rattle.archive_cli.proofs.LoadLines.{line-due, short-due}
use Rattle.archive_cli.proofs.Printed.{printed-as}
use Rattle.archive_cli.proofs.loading.load_and_print.Goals as goal

pub returns-in-Ok-clause-printed : goal.returns-in-Ok-clause-printed
returns-in-Ok-clause-printed g c = printed-as _ _ _ _ _ _ _ c.print.ensures.printed (line-due c.args.count c.args.seed _ (c.as_slice.ensures ∙ c.in-Ok.ensures))

pub returns-in-Err-clause-printed : goal.returns-in-Err-clause-printed
returns-in-Err-clause-printed g c = printed-as _ _ _ _ _ _ _ c.print_no_memory.ensures.printed (short-due c.args.count c.args.seed)
