use Rattle.std.proofs.Common.{◌≡◌, false, eqb, sym, ◌∙◌, get_or, arith}
use Rattle.std.proofs.lemmas.Bool.Decides.{nat_tests}
use Rattle.mime_parts.proofs.Lexing.{token_first, token_some, quoted_first, mark_first}
use Rattle.mime_parts.proofs.lexemes.split_lexeme.Goals as goal

pub returns-then-is_token_byte-clause-lexemes : goal.returns-then-is_token_byte-clause-lexemes
returns-then-is_token_byte-clause-lexemes c =
    rw (c.split_at.ensures.front, c.split_at.ensures.back, c.token_len.ensures.value)
    (token_first c.args.value.now c.requires.some (sym c.is_token_byte.ensures ∙ c.if-is_token_byte.true))

pub returns-then-is_token_byte-clause-shorter : goal.returns-then-is_token_byte-clause-shorter
returns-then-is_token_byte-clause-shorter c =
    let some = token_some c.args.value.now c.requires.some (sym c.is_token_byte.ensures ∙ c.if-is_token_byte.true) in
    omega (arith, some, c.token_len.ensures.value, c.split_at.ensures.back_len)

pub returns-then-byte-eq34-clause-lexemes : goal.returns-then-byte-eq34-clause-lexemes
returns-then-byte-eq34-clause-lexemes c =
    quoted_first c.args.value.now c.split_quoted.result.0.now c.split_quoted.result.1.now c.requires.some c.if-byte-eq34.true
    (rw c.split_at-2.ensures.back at c.split_quoted.ensures.quoted)

pub returns-clause-lexemes : goal.returns-clause-lexemes
returns-clause-lexemes c =
    let other : eqb (get_or c.args.value.now 0 0) 34 ≡ false = grind (arith, nat_tests) in
    rw (c.split_at-2.ensures.back, c.mark_of.ensures)
    (mark_first c.args.value.now c.requires.some (sym c.is_token_byte.ensures ∙ c.if-is_token_byte.false) c.requires.front other)
