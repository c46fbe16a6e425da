use Rattle.std.proofs.Common.{◌<◌, ◌^◌, arith, rules}
use Rattle.edge_io.proofs.Numerals.{other-decimal}
use Rattle.peer_replies.proofs.address.read_port.Goals as goal

pub returns-then-value-eq0 : goal.returns-then-value-eq0
returns-then-value-eq0 c = λ x is. let small : c.in_ok-value.value < 2 ^ 64 = search rules in
    other-decimal c.args.text.now c.in_ok-value.value x small (omega (arith, is)) c.in_ok-value.ensures.found (λ same. omega (arith, is, same))

pub returns-then-value-gt65535 : goal.returns-then-value-gt65535
returns-then-value-gt65535 c = λ x is. let small : c.in_ok-value.value < 2 ^ 64 = search rules in
    other-decimal c.args.text.now c.in_ok-value.value x small (omega (arith, is)) c.in_ok-value.ensures.found (λ same. omega (arith, is, same))
