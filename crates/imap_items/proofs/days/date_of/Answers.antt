use Rattle.mail_date.specs.Printed.{utc}
use Rattle.web_text.specs.Days.{date_at}
use Rattle.web_text.proofs.CivilDays.{date_shown}
use Rattle.imap_items.proofs.days.date_of.Goals as goal

pub returns : goal.returns
returns c = c.printed_date_is_one.ensures (utc c.args.secs) c.utc_date.result (date_at c.args.secs) c.utc_date.ensures (date_shown c.args.secs c.requires)
