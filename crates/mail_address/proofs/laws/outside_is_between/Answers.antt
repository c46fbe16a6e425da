use Rattle.mail_address.proofs.Marks.{outside_is_between}
use Rattle.mail_address.proofs.laws.outside_is_between.Goals as goal

pub returns : goal.returns
returns c = outside_is_between
