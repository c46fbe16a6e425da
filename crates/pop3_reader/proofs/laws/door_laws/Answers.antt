use Rattle.pop3_reader.proofs.DoorLaws.{pop_laws}
use Rattle.pop3_reader.proofs.laws.door_laws.Goals as goal

pub returns : goal.returns
returns c = pop_laws
