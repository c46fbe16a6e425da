use Rattle.std.proofs.Common.{◌≡◌, ◌<◌, arith}
use Rattle.std.specs.List.{prefix_len}
use Rattle.mail_date.specs.Words.{is_word_byte, without_white}
use Rattle.mail_date.proofs.WordLemmas.{words_of-none, words_of-first}
use Rattle.mail_date.proofs.words.first_word.Goals as goal

pub returns-then-len-eq0 : goal.returns-then-len-eq0
returns-then-len-eq0 c =
    let e : prefix_len is_word_byte (without_white c.args.text.now) ≡ 0 = rw (← c.without_white-body.ensures, ← c.word_len-len.ensures.value) c.if-len-eq0.true in
    words_of-none c.args.text.now e

pub returns : goal.returns
returns c =
    let e : 0 < prefix_len is_word_byte (without_white c.args.text.now) = rw (← c.without_white-body.ensures, ← c.word_len-len.ensures.value) (omega arith) in
    let first = words_of-first c.args.text.now e in
    rw (c.split_at.ensures.front, c.split_at.ensures.back, c.word_len-len.ensures.value, c.without_white-body.ensures) first
