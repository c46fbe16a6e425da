use Rattle.control_door.proofs.Doors.{control_laws}
use Rattle.control_door.proofs.laws.cut_laws.Goals as goal

pub returns : goal.returns
returns c = control_laws
