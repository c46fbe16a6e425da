use Rattle.std.proofs.Common.{arith, length-drop}
use Rattle.std.proofs.lemmas.List.{take_rest}
use Rattle.mime_words.proofs.Cutting.{cut_more}
use Rattle.mime_words.proofs.words.first_word.Goals as goal

pub loop-at-preserved : goal.loop-at-preserved
loop-at-preserved c =
    let value = c.args.value.now in
    let text = rw (take_rest value c.loop-at.at) at c.in-Text.ensures in
    record {
      within = omega (arith, text.1, length-drop c.loop-at.at value);
      cut = cut_more value c.loop-at.at c.in-Text.len c.loop-at.invariant.cut text.2;
    }
