use Rattle.imap_laws.proofs.BareTexts.{bare_read, bare_spelled}
use Rattle.imap_laws.proofs.bare_texts_are_read.Goals as goal

pub returns : goal.returns
returns c = record { read = bare_read; spelled = bare_spelled }
