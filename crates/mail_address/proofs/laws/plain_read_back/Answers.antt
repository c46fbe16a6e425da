use Rattle.mail_address.proofs.Plain.{plain_read_back}
use Rattle.mail_address.proofs.laws.plain_read_back.Goals as goal

pub returns : goal.returns
returns c = plain_read_back
