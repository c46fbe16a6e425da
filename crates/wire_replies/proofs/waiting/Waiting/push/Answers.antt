use Rattle.std.proofs.Common.{arith}
use Rattle.wire_replies.specs.Phrases.{words_of}
use Rattle.wire_replies.proofs.Speaking.{phrase-said, phrase-lost, phrases-said}
use Rattle.wire_replies.proofs.Wording.{sofar-none}
use Rattle.wire_replies.proofs.waiting.Waiting.push.Goals as goal

pub loop-phrase-init : goal.loop-phrase-init
loop-phrase-init g c = record { so_far = sofar-none (words_of c.args.phrases.now) c.args.self.now _ _; sink = g.met.O.Sink.alike_same _ }

pub loop-phrase-preserved : goal.loop-phrase-preserved
loop-phrase-preserved g c = record {
  so_far = phrase-said c.args.phrases.now c.loop-phrase.phrase-index c.args.self.now c.loop-phrase.self _ _ _ _ c.loop-phrase.invariant.so_far _ c.push_phrase.new.self _ _ tt c.loop-phrase-test.true c.in-Ok.ensures.said;
  sink = g.met.O.Sink.alike_joined _ _ _ c.loop-phrase.invariant.sink c.push_phrase.ensures.sink;
}

pub returns-in-Err-clause-said : goal.returns-in-Err-clause-said
returns-in-Err-clause-said g c =
    phrase-lost c.args.phrases.now c.loop-phrase.phrase-index c.args.self.now c.loop-phrase.self _ _ _ _ c.loop-phrase.invariant.so_far _ _ _ c.in-Err.fault c.loop-phrase-test.true c.in-Err.ensures.said

pub returns-clause-said : goal.returns-clause-said
returns-clause-said g c =
    phrases-said c.args.phrases.now c.loop-phrase.phrase-index c.args.self.now c.loop-phrase.self _ _ _ _ c.loop-phrase.invariant.so_far (omega arith)
