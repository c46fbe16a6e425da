use Rattle.std.proofs.Common.{rules}
use Rattle.web_text.proofs.CivilDays.{moment-printed}
use Rattle.web_text.proofs.moments.push_moment.Goals as goal

pub returns-clause-ok : goal.returns-clause-ok
returns-clause-ok c = rw (← moment-printed c.args.secs c.print_rfc3339.result c.printed_date_is_one.ensures c.requires c.print_rfc3339.ensures) (search rules)
