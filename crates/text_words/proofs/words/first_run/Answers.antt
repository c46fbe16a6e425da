use Rattle.std.proofs.Common.{◌≡◌, ◌<◌, arith}
use Rattle.std.specs.List.{prefix_len}
use Rattle.text_words.specs.Words.{is_word_byte}
use Rattle.text_words.proofs.RunLemmas.{from_first, runs-none, runs-first}
use Rattle.text_words.proofs.words.first_run.Goals as goal

pub returns-then-len-eq0-clause-runs : goal.returns-then-len-eq0-clause-runs
returns-then-len-eq0-clause-runs c =
    let e : prefix_len is_word_byte (from_first is_word_byte c.args.text.now) ≡ 0 = rw (← c.gap_len.ensures.value, ← c.split_at.ensures.back, ← c.run_len-len.ensures.value) c.if-len-eq0.true in
    runs-none is_word_byte c.args.text.now e

pub returns-clause-runs : goal.returns-clause-runs
returns-clause-runs c =
    let e : 0 < prefix_len is_word_byte (from_first is_word_byte c.args.text.now) = rw (← c.gap_len.ensures.value, ← c.split_at.ensures.back, ← c.run_len-len.ensures.value) (omega arith) in
    let first = runs-first is_word_byte c.args.text.now e in
    rw (c.split_at-2.ensures.front, c.split_at-2.ensures.back, c.run_len-len.ensures.value, c.split_at.ensures.back, c.gap_len.ensures.value) first
