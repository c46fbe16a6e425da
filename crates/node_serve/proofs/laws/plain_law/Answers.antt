use Rattle.node_serve.proofs.PlainTurns.{plain-laws}
use Rattle.node_serve.proofs.laws.plain_law.Goals as goal

pub returns : goal.returns
returns c = plain-laws
