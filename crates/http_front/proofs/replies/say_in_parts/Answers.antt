use Rattle.std.proofs.Common.{sym, arith}
use Rattle.std.proofs.lemmas.Bool.Decides.{nat_tests}
use Rattle.wire_replies.proofs.Wording.{split-joined}
use Rattle.http_front.proofs.Parts.{written-none, written-more, written-lost, written-all}
use Rattle.http_front.proofs.replies.say_in_parts.Goals as goal

pub loop-rest-init : goal.loop-rest-init
loop-rest-init g c = record { written = written-none c.args.words.now _ _; sink = g.met.O.Sink.alike_same _ }

pub loop-rest-preserved : goal.loop-rest-preserved
loop-rest-preserved g c = record {
  written = written-more c.args.words.now c.loop-rest.rest.now _ _ _ _ c.loop-rest.invariant.written c.split_at.result.0.now c.split_at.result.1.now
      (sym (split-joined _ c.loop-rest.rest.now c.split_at.result.0.now c.split_at.result.1.now c.split_at.ensures.front c.split_at.ensures.back)) _ _ c.in-Ok.ensures.said;
  sink = g.met.O.Sink.alike_joined _ _ _ c.loop-rest.invariant.sink c.say.ensures.sink;
}

pub returns-in-Err-clause-said : goal.returns-in-Err-clause-said
returns-in-Err-clause-said g c =
    written-lost c.args.words.now c.loop-rest.rest.now _ _ _ _ c.loop-rest.invariant.written c.split_at.result.0.now c.split_at.result.1.now
    (sym (split-joined _ c.loop-rest.rest.now c.split_at.result.0.now c.split_at.result.1.now c.split_at.ensures.front c.split_at.ensures.back)) _ _ c.in-Err.fault c.in-Err.ensures.said

pub returns-clause-said : goal.returns-clause-said
returns-clause-said g c = written-all c.args.words.now c.loop-rest.rest.now _ _ _ _ c.loop-rest.invariant.written (grind (arith, nat_tests))
