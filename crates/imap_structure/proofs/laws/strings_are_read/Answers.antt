use Rattle.imap_structure.proofs.Reading.{strings-read}
use Rattle.imap_structure.proofs.laws.strings_are_read.Goals as goal

pub returns : goal.returns
returns c = strings-read
