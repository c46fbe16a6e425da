use Rattle.mail_address.proofs.Texts.{name_text_is_said}
use Rattle.mail_address.proofs.laws.name_text_is_said.Goals as goal

pub returns : goal.returns
returns c = name_text_is_said
