use Rattle.mail_reader.proofs.IdLines.{id_kept}
use Rattle.mail_reader.proofs.laws.id_line_is_kept.Goals as goal

pub returns : goal.returns
returns c = id_kept
