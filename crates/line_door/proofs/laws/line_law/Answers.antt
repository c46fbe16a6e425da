-- The law of the line at the front.
use Rattle.line_door.proofs.Fronts.{line_law}
use Rattle.line_door.proofs.laws.line_law.Goals as goal

pub returns : goal.returns
returns c = line_law
