use Rattle.mail_address.proofs.Single.{item_reads, open_item_reads}
use Rattle.mail_address.proofs.laws.item_reads.Goals as goal

pub returns : goal.returns
returns c = record { closed = item_reads; open_ended = open_item_reads }
