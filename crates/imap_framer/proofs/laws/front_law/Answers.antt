-- The law of the part at the front.
use Rattle.imap_framer.proofs.PartLaws.{part_law}
use Rattle.imap_framer.proofs.laws.front_law.Goals as goal

pub returns : goal.returns
returns c = part_law
