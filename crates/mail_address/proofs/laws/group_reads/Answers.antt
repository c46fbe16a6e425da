use Rattle.mail_address.proofs.Single.{group_reads}
use Rattle.mail_address.proofs.laws.group_reads.Goals as goal

pub returns : goal.returns
returns c = group_reads
