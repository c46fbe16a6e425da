use Rattle.mail_reader.proofs.PieceLaws.{are_pieces}
use Rattle.mail_reader.proofs.laws.ids_are_pieces.Goals as goal

pub returns : goal.returns
returns c = are_pieces
