use Rattle.std.proofs.Common.{◌∙◌}
use Rattle.word_index.proofs.MarkLemmas.{mark-next}
use Rattle.word_index.proofs.marks.mark_of.Goals as goal

pub loop-byte-preserved : goal.loop-byte-preserved
loop-byte-preserved c =
    record { mark = c.mark_on-mark.ensures ∙ mark-next c.args.text.now c.loop-byte.byte-index c.loop-byte.mark c.loop-byte-test.true c.loop-byte.invariant.mark }
