use Rattle.std.proofs.Common.{◌<◌, ◌^◌, arith}
use Rattle.std.proofs.Common.{rules}
use Rattle.edge_io.proofs.Numerals.{other-decimal}
use Rattle.edge_io.proofs.reading.read_connection.Goals as goal

pub returns-else-conn-lt-CONNECTIONS : goal.returns-else-conn-lt-CONNECTIONS
returns-else-conn-lt-CONNECTIONS c = λ x is. let small : c.in_ok-conn.conn < 2 ^ 64 = search rules in
    other-decimal c.args.text.now c.in_ok-conn.conn x small (omega (arith, is)) c.in_ok-conn.ensures.found (λ same. omega (arith, is))
