use Rattle.std.proofs.Common.{ap, ◌∙◌}
use Rattle.mail_reader.specs.Stored.{without_end}
use Rattle.mail_reader.specs.Values.{flat_of}
use Rattle.mail_reader.proofs.values.trim.Goals as goal

pub returns : goal.returns
unfolding flat_of
returns c = c.trim_end.ensures ∙ ap (without_end 32) c.trim_start.ensures
