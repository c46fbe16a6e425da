use Rattle.std.proofs.Common.{◌<◌, ◌≤◌, length, arith}
use Rattle.archive_cli.proofs.Printed.{took-refused, front-full}
use Rattle.archive_cli.proofs.reading.read_front.Goals as goal

pub returns-in-Err-clause-few : goal.returns-in-Err-clause-few
returns-in-Err-clause-few g c =
    let few : length c.pieces.bytes < c.args.most = rw c.as_slice.ensures at c.pieces-test.true in
    took-refused c.args.most c.in-Err.refused (g.S.Source.left c.args.input.now) _ _ _ _ _ _ c.in-Err.ensures.read c.pieces.invariant.read few

pub returns-clause-read : goal.returns-clause-read
returns-clause-read g c =
    let many : c.args.most ≤ length c.pieces.bytes = rw c.as_slice.ensures at c.pieces-test.false in
    let few = c.pieces.invariant.few in
    (front-full c.args.most (g.S.Source.left c.args.input.now) (g.S.Source.left c.pieces.input) c.pieces.bytes c.pieces.invariant.read (omega (arith, many, few)), c.pieces.invariant.kept)
