use Rattle.node_serve.proofs.UpdateLaws.{updates-once}
use Rattle.node_serve.proofs.laws.update_law.Goals as goal

pub returns : goal.returns
returns c = updates-once c.door_laws.ensures
