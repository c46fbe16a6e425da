use Rattle.mail_date.proofs.WrittenLemmas.{written_spelled}
use Rattle.mail_date.proofs.laws.written_date_is_spelled.Goals as goal

pub returns : goal.returns
returns c = written_spelled
