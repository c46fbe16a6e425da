use Rattle.imap_laws.proofs.LiteralTexts.{literal_read, literal_spelled}
use Rattle.imap_laws.proofs.literal_texts_are_read.Goals as goal

pub returns : goal.returns
returns c = record { read = literal_read; spelled = literal_spelled }
