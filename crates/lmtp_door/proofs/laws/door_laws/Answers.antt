use Rattle.lmtp_door.proofs.DoorLaws.{lmtp_laws}
use Rattle.lmtp_door.proofs.laws.door_laws.Goals as goal

pub returns : goal.returns
returns c = lmtp_laws
