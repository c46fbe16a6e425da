use Rattle.std.proofs.Common.{ap, length, arith}
use Rattle.edge_io.proofs.Givings.{piece-short}
use Rattle.edge_io.proofs.arrivals.Arrivals.piece.Goals as goal

pub returns-clause-short : goal.returns-clause-short
returns-clause-short c = omega (arith, ap length c.piece.ensures, piece-short c.self.inside.script c.self.inside.at c.self.invariant.1)
