use Rattle.mail_address.proofs.Texts.{address_text_is_said}
use Rattle.mail_address.proofs.laws.address_text_is_said.Goals as goal

pub returns : goal.returns
returns c = address_text_is_said
