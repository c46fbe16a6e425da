use Rattle.mail_reader.proofs.PieceLaws.{in_order}
use Rattle.mail_reader.proofs.laws.ids_in_order.Goals as goal

pub returns : goal.returns
returns c = in_order
