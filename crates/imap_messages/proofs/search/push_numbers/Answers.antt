use Rattle.wire_replies.proofs.Wording.{sofar-more, sofar-lost}
use Rattle.imap_messages.proofs.Seekings.{numbers-left}
use Rattle.imap_messages.proofs.search.push_numbers.Goals as goal

pub loop-number-preserved : goal.loop-number-preserved
loop-number-preserved g c = record {
  so_far = sofar-more _ _ _ _ _ _ _ _ c.loop-number.invariant.so_far _ _ _ _ _ tt (numbers-left c.args.numbers.now c.loop-number.number-index c.loop-number-test.true) c.in-Ok.ensures.said;
  sink = g.met.O.Sink.alike_joined _ _ _ c.loop-number.invariant.sink c.push_number.ensures.sink;
}

pub returns-in-Err-clause-said : goal.returns-in-Err-clause-said
returns-in-Err-clause-said g c =
    sofar-lost _ _ _ _ _ _ _ _ c.loop-number.invariant.so_far _ _ _ _ c.in-Err.fault (numbers-left c.args.numbers.now c.loop-number.number-index c.loop-number-test.true) c.in-Err.ensures.said
