use Rattle.mail_reader.proofs.FormLaws.{short}
use Rattle.mail_reader.proofs.laws.forms_are_short.Goals as goal

pub returns : goal.returns
returns c = short
