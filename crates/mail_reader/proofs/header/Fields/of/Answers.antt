use Rattle.mail_reader.proofs.FirstFields.{length-fields_of}
use Rattle.mail_reader.proofs.header.Fields.of.Goals as goal

pub returns-clause-len : goal.returns-clause-len
returns-clause-len c = length-fields_of c.args.text.now
