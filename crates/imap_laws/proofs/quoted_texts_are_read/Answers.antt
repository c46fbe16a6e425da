use Rattle.imap_laws.proofs.QuotedTexts.{quoted_read, quoted_spelled}
use Rattle.imap_laws.proofs.quoted_texts_are_read.Goals as goal

pub returns : goal.returns
returns c = record { read = quoted_read; spelled = quoted_spelled }
