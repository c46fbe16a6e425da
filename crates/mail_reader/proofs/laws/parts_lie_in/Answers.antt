use Rattle.mail_reader.proofs.PartLaws.{lie_in}
use Rattle.mail_reader.proofs.laws.parts_lie_in.Goals as goal

pub returns : goal.returns
returns c = lie_in
