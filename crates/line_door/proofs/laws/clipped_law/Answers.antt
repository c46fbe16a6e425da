-- The law of what is kept of bytes.
use Rattle.line_door.proofs.Clipping.{clipped_laws}
use Rattle.line_door.proofs.laws.clipped_law.Goals as goal

pub returns : goal.returns
returns c = clipped_laws
