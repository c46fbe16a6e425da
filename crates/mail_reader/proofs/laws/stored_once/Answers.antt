use Rattle.mail_reader.proofs.FormLaws.{once}
use Rattle.mail_reader.proofs.laws.stored_once.Goals as goal

pub returns : goal.returns
returns c = once
