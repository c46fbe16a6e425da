use Rattle.mail_reader.proofs.FormLaws.{parts}
use Rattle.mail_reader.proofs.laws.form_is_parts.Goals as goal

pub returns : goal.returns
returns c = parts
