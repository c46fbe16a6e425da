use Rattle.std.proofs.Common.{length, ap, arith}
use Rattle.mail_reader.specs.Laws.{wholes}
use Rattle.nntp_reader.specs.Articles.{header_of}
use Rattle.nntp_reader.proofs.articles.header_len.Goals as goal

pub returns-clause-value : goal.returns-clause-value
unfolding header_of
returns-clause-value c =
    let none = ap (λ x. length (wholes x)) c.in-None.ensures.steps.0 in
    omega (arith, c.loop-field.invariant, none)
