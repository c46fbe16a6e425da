use Rattle.mail_date.proofs.OneLemmas.{one_spelled}
use Rattle.mail_date.proofs.laws.spelled_moment_is_one.Goals as goal

pub returns : goal.returns
returns c = one_spelled
