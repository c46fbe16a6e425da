use Rattle.mail_reader.proofs.FormLaws.{in_front}
use Rattle.mail_reader.proofs.laws.field_in_front.Goals as goal

pub returns : goal.returns
returns c = in_front
