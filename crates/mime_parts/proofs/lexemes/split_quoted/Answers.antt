use Rattle.std.proofs.Common.{sym, ◌∙◌, rules}
use Rattle.mime_parts.proofs.Lexing.{content_more, content_end, content_all}
use Rattle.mime_parts.proofs.lexemes.split_quoted.Goals as goal

pub returns-then-is_quote-clause-quoted : goal.returns-then-is_quote-clause-quoted
returns-then-is_quote-clause-quoted c =
    rw (c.split_at.ensures.front, c.split_at-then-is_quote.ensures.back)
    (content_end c.loop-at.escaped c.args.bytes.now c.loop-at.at c.loop-at-test.true (sym c.is_quote.ensures ∙ c.if-is_quote.true) c.loop-at.invariant)

pub loop-at-preserved : goal.loop-at-preserved
loop-at-preserved c =
    rw c.is_escape-escaped.ensures
    (content_more c.loop-at.escaped c.args.bytes.now c.loop-at.at c.loop-at-test.true (sym c.is_quote.ensures ∙ c.if-is_quote.false) c.loop-at.invariant)

pub returns-clause-quoted : goal.returns-clause-quoted
returns-clause-quoted c = content_all c.loop-at.escaped c.args.bytes.now c.loop-at.at (search rules) c.loop-at.invariant
