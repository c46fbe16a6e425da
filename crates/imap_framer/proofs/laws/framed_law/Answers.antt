-- The laws of a door whose requests are parts.
use Rattle.imap_framer.proofs.Doors.{framed_law}
use Rattle.imap_framer.proofs.laws.framed_law.Goals as goal

pub returns : goal.returns
returns c = framed_law
