use Rattle.std.proofs.Common.{◌+◌}
use Rattle.edge_io.proofs.Dividing.{LacksByte-all, LacksByte-take, divided-at}
use Rattle.edge_io.proofs.Fronts.{take_rest}
use Rattle.peer_replies.proofs.address.divide.Goals as goal

pub returns-in_err-offset : goal.returns-in_err-offset
returns-in_err-offset c = rw c.from_residual.ensures (LacksByte-all c.args.byte c.args.text.now c.in_err-offset.ensures)

pub returns : goal.returns
returns c = (
  LacksByte-take c.args.byte c.args.text.now c.in_ok-offset.offset c.in_ok-offset.ensures.0.before,
  rw (take_rest c.args.text.now (c.in_ok-offset.offset + 1)) (divided-at c.args.byte c.args.text.now c.in_ok-offset.offset c.in_ok-offset.ensures.0.high c.in_ok-offset.ensures.1),
)
