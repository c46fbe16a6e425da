use Rattle.std.proofs.Common.{◌≡◌, ◌<◌, arith}
use Rattle.std.specs.List.{prefix_len}
use Rattle.query_lang.specs.Terms.{is_term_byte}
use Rattle.text_words.proofs.RunLemmas.{from_first, runs-none, runs-first}
use Rattle.query_lang.proofs.terms.first_term.Goals as goal

pub returns-then-len-eq0-clause-terms : goal.returns-then-len-eq0-clause-terms
returns-then-len-eq0-clause-terms c =
    let e : prefix_len is_term_byte (from_first is_term_byte c.args.text.now) ≡ 0 = rw (← c.space_len.ensures.value, ← c.split_at.ensures.back, ← c.term_len-len.ensures.value) c.if-len-eq0.true in
    runs-none is_term_byte c.args.text.now e

pub returns-clause-terms : goal.returns-clause-terms
returns-clause-terms c =
    let e : 0 < prefix_len is_term_byte (from_first is_term_byte c.args.text.now) = rw (← c.space_len.ensures.value, ← c.split_at.ensures.back, ← c.term_len-len.ensures.value) (omega arith) in
    let first = runs-first is_term_byte c.args.text.now e in
    rw (c.split_at-2.ensures.front, c.split_at-2.ensures.back, c.term_len-len.ensures.value, c.split_at.ensures.back, c.space_len.ensures.value) first
