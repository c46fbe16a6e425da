use Rattle.std.proofs.Common.{◌≤◌, length, sym, arith}
use Rattle.std.proofs.lemmas.List.{take_all}
use Rattle.text_words.proofs.words.front.Goals as goal

pub returns-then-run-le-MAX_WORD_LEN : goal.returns-then-run-le-MAX_WORD_LEN
returns-then-run-le-MAX_WORD_LEN c =
    let short : length c.args.run.now ≤ 64 = omega arith in
    sym (take_all 64 c.args.run.now short)
