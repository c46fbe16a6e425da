use Rattle.mail_reader.proofs.FormLaws.{clean}
use Rattle.mail_reader.proofs.laws.forms_are_clean.Goals as goal

pub returns : goal.returns
returns c = clean
