use Rattle.std.proofs.Common.{◌∙◌}
use Rattle.http_front.proofs.replies.say_damaged_file.Goals as goal

pub returns-clause-said : goal.returns-clause-said
returns-clause-said g c = c.say_file_line.ensures.said c.args.moment c.args.at c.date_at.ensures (c.as_bytes-offset.ensures.value ∙ c.format.ensures.text)
