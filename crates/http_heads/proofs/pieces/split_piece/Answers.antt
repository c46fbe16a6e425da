use Rattle.std.proofs.Common.{refl, ◌∙◌, arith}
use Rattle.http_heads.proofs.Splits.{split-none, split-some}
use Rattle.http_heads.proofs.pieces.split_piece.Goals as goal

pub returns-in-Some : goal.returns-in-Some
returns-in-Some c =
    let found = c.in-Some.ensures in
    split-some c.args.stop c.in-Some.end c.args.bytes.now found.0.high found.1 (λ k l. found.0.before k (omega arith) l)
    ∙ rw (c.split_at.ensures.front, c.split_at-in-Some.ensures.back) refl

pub returns-in-None : goal.returns-in-None
returns-in-None c = split-none c.args.stop c.args.bytes.now (λ k l. c.in-None.ensures k (omega arith) l)
