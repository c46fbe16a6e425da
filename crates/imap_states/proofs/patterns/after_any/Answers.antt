use Rattle.std.proofs.Common.{arith}
use Rattle.imap_states.proofs.Rests.{any-told}
use Rattle.imap_states.proofs.patterns.after_any.Goals as goal

pub returns : goal.returns
returns c = λ test name e tells. any-told test name c.args.rests.now c.loop-index.made tells
    (λ i below. c.loop-index.invariant.later i (omega arith) (omega (arith, below, e))) (λ i over. c.loop-index.invariant.past i (omega (arith, over, e)))
