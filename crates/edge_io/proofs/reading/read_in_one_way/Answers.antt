use Rattle.edge_io.proofs.Unambiguous.{read-in_one_way}
use Rattle.edge_io.proofs.reading.read_in_one_way.Goals as goal

pub returns : goal.returns
returns c = read-in_one_way
