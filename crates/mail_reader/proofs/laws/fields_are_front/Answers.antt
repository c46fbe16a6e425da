use Rattle.mail_reader.proofs.FormLaws.{fields_front}
use Rattle.mail_reader.proofs.laws.fields_are_front.Goals as goal

pub returns : goal.returns
returns c = fields_front
