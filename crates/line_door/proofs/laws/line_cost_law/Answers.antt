use Rattle.line_door.proofs.Costing.{cost_laws}
use Rattle.line_door.proofs.laws.line_cost_law.Goals as goal

pub returns : goal.returns
returns c = cost_laws
