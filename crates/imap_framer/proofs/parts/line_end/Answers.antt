-- The end of a line, by the first line feed after what is skipped.
use Rattle.std.proofs.Common.{◌<◌, length, arith, eqb-true, eq-eqb}
use Rattle.line_door.proofs.Fronts.{first_line-at, first_line-none}
use Rattle.imap_framer.proofs.Fronting.{line-end-some, line-end-none}
use Rattle.imap_framer.proofs.parts.line_end.Goals as goal

pub returns-in-Some : goal.returns-in-Some
returns-in-Some c =
    let e = c.in-Some.ensures in
    let behind = c.split_at.result.1.now in
    let high : c.in-Some.end < length behind = e.0.high in
    line-end-some c.args.skip c.min-start.result c.in-Some.end c.args.piece.now behind c.min-start.ensures c.split_at.ensures.back high
    (first_line-at behind c.in-Some.end high (eqb-true _ 10 e.1) (λ k l is. e.0.before k (omega arith) l (eq-eqb _ 10 is)))

pub returns-in-None : goal.returns-in-None
returns-in-None c =
    let none = c.in-None.ensures in
    let behind = c.split_at.result.1.now in
    line-end-none c.args.skip c.min-start.result c.args.piece.now behind c.min-start.ensures c.split_at.ensures.back
    (first_line-none behind (λ k l is. none k (omega arith) l (eq-eqb _ 10 is)))
