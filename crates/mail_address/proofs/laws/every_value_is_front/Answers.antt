use Rattle.mail_address.proofs.Fronts.{every_value_is_front}
use Rattle.mail_address.proofs.laws.every_value_is_front.Goals as goal

pub returns : goal.returns
returns c = every_value_is_front
