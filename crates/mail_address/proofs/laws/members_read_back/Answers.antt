use Rattle.mail_address.proofs.Mailboxes.{members_read_back}
use Rattle.mail_address.proofs.laws.members_read_back.Goals as goal

pub returns : goal.returns
returns c = members_read_back
