use Rattle.mail_date.proofs.OneLemmas.{one_date}
use Rattle.mail_date.proofs.laws.printed_date_is_one.Goals as goal

pub returns : goal.returns
returns c = one_date
