use Rattle.node_serve.proofs.Counting.{counts}
use Rattle.node_serve.proofs.laws.count_law.Goals as goal

pub returns : goal.returns
returns c = counts
