use Rattle.mail_reader.proofs.IdPieces.{length-ids_of}
use Rattle.mail_reader.proofs.ids.Ids.of.Goals as goal

pub returns-clause-len : goal.returns-clause-len
returns-clause-len c = length-ids_of c.args.value.now
