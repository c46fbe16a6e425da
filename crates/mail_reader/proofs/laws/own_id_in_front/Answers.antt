use Rattle.mail_reader.proofs.IdLines.{id_in_front}
use Rattle.mail_reader.proofs.laws.own_id_in_front.Goals as goal

pub returns : goal.returns
returns c = id_in_front
