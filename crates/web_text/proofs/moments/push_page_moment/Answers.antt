use Rattle.std.proofs.Common.{rules}
use Rattle.web_text.proofs.CivilDays.{page_moment-printed}
use Rattle.web_text.proofs.moments.push_page_moment.Goals as goal

pub returns-clause-ok : goal.returns-clause-ok
returns-clause-ok c = rw (← page_moment-printed c.args.secs c.print_page.result c.printed_date_is_one.ensures c.requires c.print_page.ensures) (search rules)
