use Rattle.mail_date.proofs.MomentLemmas.{moment_spelled}
use Rattle.mail_date.proofs.laws.moment_is_spelled.Goals as goal

pub returns : goal.returns
returns c = moment_spelled
