use Rattle.std.proofs.Common.{sym, ◌∙◌, length-drop, arith}
use Rattle.imap_words.proofs.WordCuts.{words_whole, words_cut}
use Rattle.imap_words.proofs.words.split.Goals as goal

pub returns-then-len-text : goal.returns-then-len-text
returns-then-len-text c = words_whole c.args.byte c.args.text.now (sym c.len_before-len.ensures.value ∙ c.if-len-text.true)

pub returns : goal.returns
returns c =
    words_cut c.args.byte c.args.text.now c.split_at.result.0.now c.split_at-2.result.1.now c.len_before-len.result
    c.len_before-len.ensures.value (omega arith) c.split_at.ensures.front c.split_at-2.ensures.back
