use Rattle.mail_address.proofs.Single.{bare_reads}
use Rattle.mail_address.proofs.laws.bare_reads.Goals as goal

pub returns : goal.returns
returns c = bare_reads
