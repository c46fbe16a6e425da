use Rattle.imap_commands.proofs.Leaving.{laws_hold}
use Rattle.imap_session.proofs.DoorLaws.{imap_laws}
use Rattle.imap_session.proofs.laws.door_laws.Goals as goal

pub returns : goal.returns
returns c = imap_laws laws_hold.suit
