use Rattle.std.proofs.Common.{◌∷◌, ◌∙◌, ap, ◌++◌}
use Rattle.std.specs.Fmt.{decimal}
use Rattle.edge_io.proofs.Dividing.{LacksByte-divided, same_parts}
use Rattle.peer_replies.proofs.Hosts.{bracketed-text, spells-bracketed}
use Rattle.peer_replies.proofs.address.read_bracketed.Goals as goal

pub returns-in_err-host : goal.returns-in_err-host
returns-in_err-host c = rw c.from_residual.ensures (λ x is e.
    LacksByte-divided 93 c.args.rest.now x.host.now (58 ∷ decimal x.port) c.in_err-host.ensures
    (bracketed-text x.bracketed x.host.now (decimal x.port) c.args.rest.now is.some is.host e).2)

pub returns-in_err-after : goal.returns-in_err-after
returns-in_err-after c = rw c.from_residual-in_err-after.ensures (λ x is e.
    let t = bracketed-text x.bracketed x.host.now (decimal x.port) c.args.rest.now is.some is.host e in
    let parts = same_parts 93 c.args.rest.now c.in_ok-host.host.now c.in_ok-host.rest.now x.host.now (58 ∷ decimal x.port) c.in_ok-host.ensures.0 c.in_ok-host.ensures.1 t.1 t.2 in
    c.in_err-after.ensures (decimal x.port) parts.1)

pub returns : goal.returns
returns c =
    spells-bracketed c.args.rest.now c.in_ok-host.host.now c.in_ok-after.field-0.now c.address_of.result c.in_ok-host.ensures.0
    (c.in_ok-host.ensures.1 ∙ ap (λ t. c.in_ok-host.host.now ++ 93 ∷ t) c.in_ok-after.ensures) c.address_of.ensures.some c.address_of.ensures.none
