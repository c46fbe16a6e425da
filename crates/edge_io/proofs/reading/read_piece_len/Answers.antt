use Rattle.std.proofs.Common.{◌<◌, ◌^◌, arith}
use Rattle.std.proofs.Common.{rules}
use Rattle.edge_io.proofs.Numerals.{other-decimal}
use Rattle.edge_io.proofs.reading.read_piece_len.Goals as goal

pub returns-else-len-ge1 : goal.returns-else-len-ge1
returns-else-len-ge1 c = λ x is. let small : c.in_ok-len.len < 2 ^ 64 = search rules in
    other-decimal c.args.text.now c.in_ok-len.len x small (omega (arith, is.1)) c.in_ok-len.ensures.found (λ same. omega (arith, is.0, is.1))
