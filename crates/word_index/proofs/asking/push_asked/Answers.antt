use Rattle.word_index.proofs.AskedLemmas.{asked-step}
use Rattle.word_index.proofs.asking.push_asked.Goals as goal

pub loop-word-preserved : goal.loop-word-preserved
loop-word-preserved c row held =
    rw c.in_ok-push.ensures.items
    (asked-step c.args.held.now row c.args.field c.number_of-word.result c.word-item.result c.loop-word.into.items c.args.into.now.items c.args.words.now c.loop-word.word-index c.loop-word-test.true c.word-item.is
    (rw c.as_slice.ensures at c.number_of-word.ensures) held (c.loop-word.invariant row held))
