use Rattle.std.specs.Fmt.{decimal}
use Rattle.edge_io.proofs.Dividing.{LacksByte-divided}
use Rattle.peer_replies.proofs.Hosts.{plain-text, lacks-plain}
use Rattle.peer_replies.proofs.address.read_plain.Goals as goal

pub returns-in_err-host-clause-none : goal.returns-in_err-host-clause-none
returns-in_err-host-clause-none c = rw c.from_residual.ensures (λ x is plain e.
    let t = plain-text x.bracketed x.host.now (decimal x.port) c.args.text.now plain is.host e in
    LacksByte-divided 58 c.args.text.now x.host.now (decimal x.port) c.in_err-host.ensures t.1)

pub returns-clause-none : goal.returns-clause-none
returns-clause-none c = lacks-plain c.args.text.now c.in_ok-host.host.now c.in_ok-host.port.now c.address_of.result c.in_ok-host.ensures.0 c.in_ok-host.ensures.1 c.address_of.ensures.none
