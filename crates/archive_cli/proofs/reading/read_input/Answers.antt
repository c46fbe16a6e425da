use Rattle.std.proofs.Common.{◌<◌, ◌≤◌, length, arith}
use Rattle.archive_cli.proofs.Printed.{front-long, front-short}
use Rattle.archive_cli.proofs.reading.read_input.Goals as goal

pub returns-in-Ok-clause-read : goal.returns-in-Ok-clause-read
returns-in-Ok-clause-read g c =
    let long : 268435456 < length c.in-Ok.bytes = rw c.as_slice.ensures at c.if-as_slice-gt-INPUT_LIMIT.true in
    let all = front-long (g.S.Source.left c.args.input.now) c.in-Ok.bytes 268435457 268435456 c.in-Ok.ensures.read.0 long in
    (all.0, all.1, all.2, c.in-Ok.ensures.read.1)

pub returns-in-Ok-2-clause-read : goal.returns-in-Ok-2-clause-read
returns-in-Ok-2-clause-read g c =
    let short : length c.in-Ok.bytes ≤ 268435456 = rw c.as_slice.ensures at c.if-as_slice-gt-INPUT_LIMIT.false in
    (front-short (g.S.Source.left c.args.input.now) c.in-Ok.bytes 268435457 c.in-Ok.ensures.read.0 (omega (arith, short)), short, c.in-Ok.ensures.read.1)
