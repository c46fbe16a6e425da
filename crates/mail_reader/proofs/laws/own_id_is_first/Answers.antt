use Rattle.mail_reader.proofs.OwnIds.{own_is_first}
use Rattle.mail_reader.proofs.laws.own_id_is_first.Goals as goal

pub returns : goal.returns
returns c = own_is_first
