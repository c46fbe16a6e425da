use Rattle.std.proofs.Common.{◌≡◌, ◌<◌, arith}
use Rattle.std.specs.List.{prefix_len}
use Rattle.nntp_reader.specs.Words.{is_word_byte, without_blanks}
use Rattle.nntp_reader.proofs.WordLemmas.{words_of-none, words_of-first}
use Rattle.nntp_reader.proofs.words.next_word.Goals as goal

pub returns-then-len-eq0 : goal.returns-then-len-eq0
returns-then-len-eq0 c =
    let e : prefix_len is_word_byte (without_blanks c.args.line.now) ≡ 0 = rw (← c.without_blanks-body.ensures, ← c.word_len-len.ensures.value) c.if-len-eq0.true in
    words_of-none c.args.line.now e

pub returns : goal.returns
returns c =
    let e : 0 < prefix_len is_word_byte (without_blanks c.args.line.now) = rw (← c.without_blanks-body.ensures, ← c.word_len-len.ensures.value) (omega arith) in
    let first = words_of-first c.args.line.now e in
    rw (c.split_at.ensures.front, c.split_at.ensures.back, c.word_len-len.ensures.value, c.without_blanks-body.ensures) first
