use Rattle.std.proofs.Common.{◌∙◌}
use Rattle.http_heads.proofs.ReplyDays.{date-printed}
use Rattle.http_heads.proofs.dates.date_at.Goals as goal

pub returns : goal.returns
returns c = c.to_bytes.ensures ∙ date-printed c.in-Ok.date c.args.moment c.requires c.in-Ok.ensures.value
