use Rattle.mail_address.proofs.Parting.{split_last-found, split_last-missing}
use Rattle.lmtp_door.proofs.grammar.mailbox.Goals as goal

pub returns-in-Some : goal.returns-in-Some
returns-in-Some c = rw (split_last-found 64 c.args.path.now c.in-Some.at c.in-Some.ensures)

pub returns-in-None : goal.returns-in-None
returns-in-None c = rw (split_last-missing 64 c.args.path.now c.in-None.ensures)
