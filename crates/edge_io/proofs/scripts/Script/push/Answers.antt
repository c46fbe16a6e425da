use Rattle.std.proofs.Common.{length, ap}
use Rattle.edge_io.proofs.Placing.{arrivals-pushed}
use Rattle.edge_io.proofs.scripts.Script.push.Goals as goal

pub returns : goal.returns
returns c =
    arrivals-pushed c.push.result c.self.inside.pieces c.args.piece.now c.push_slice.new.self c.self.inside.placed c.push.new.self c.args.event (length c.as_slice-start.result.now) c.args.self.now
    c.self.invariant c.requires c.in_ok-push_slice.ensures (ap length c.as_slice-start.ensures) c.push.ensures c.self.view_is
