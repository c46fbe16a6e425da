use Rattle.mail_address.proofs.Single.{address_is_split, alone_is_mailbox, nothing_is_no_mailbox}
use Rattle.mail_address.proofs.laws.mailbox_is_split.Goals as goal

pub returns : goal.returns
returns c = record { split = address_is_split; alone = alone_is_mailbox; nothing = nothing_is_no_mailbox }
