use Rattle.std.proofs.Common.{◌<◌, ◌^◌, arith}
use Rattle.std.proofs.Common.{rules}
use Rattle.edge_io.proofs.Numerals.{other-decimal}
use Rattle.edge_io.proofs.reading.read_moment.Goals as goal

pub returns-else-moment-le-LAST_MOMENT : goal.returns-else-moment-le-LAST_MOMENT
returns-else-moment-le-LAST_MOMENT c = λ x is. let small : c.in_ok-moment.moment < 2 ^ 64 = search rules in
    other-decimal c.args.text.now c.in_ok-moment.moment x small (omega (arith, is)) c.in_ok-moment.ensures.found (λ same. omega (arith, is))
