use Rattle.std.proofs.Common.{Ok}
use Rattle.wire_replies.proofs.Wording.{sofar-none, sofar-more, sofar-end, sofar-lost, split-joined, Waits-put}
use Rattle.wire_replies.proofs.waiting.Waiting.say.Goals as goal

pub loop-self-init : goal.loop-self-init
loop-self-init g c = record { so_far = sofar-none c.args.words.now c.args.self.now _ _; sink = g.met.O.Sink.alike_same _ }

pub loop-self-preserved : goal.loop-self-preserved
loop-self-preserved g c = record {
  so_far = sofar-more c.args.words.now c.args.self.now _ _ c.loop-self.rest.now c.loop-self.self _ _ c.loop-self.invariant.so_far c.split_at.result.0.now c.split_at.result.1.now c.fill.new.self _ _ tt
      (split-joined _ c.loop-self.rest.now c.split_at.result.0.now c.split_at.result.1.now c.split_at.ensures.front c.split_at.ensures.back) c.in-Ok.ensures.said;
  sink = g.met.O.Sink.alike_joined _ _ _ c.loop-self.invariant.sink c.fill.ensures.sink;
}

pub returns-in-Err-clause-said : goal.returns-in-Err-clause-said
returns-in-Err-clause-said g c =
    sofar-lost c.args.words.now c.args.self.now _ _ c.loop-self.rest.now c.loop-self.self _ _ c.loop-self.invariant.so_far c.split_at.result.0.now c.split_at.result.1.now _ _ c.in-Err.fault
    (split-joined _ c.loop-self.rest.now c.split_at.result.0.now c.split_at.result.1.now c.split_at.ensures.front c.split_at.ensures.back) c.in-Err.ensures.said

pub returns-clause-said : goal.returns-clause-said
returns-clause-said g c =
    sofar-end c.args.words.now c.args.self.now _ _ c.loop-self.rest.now c.loop-self.self _ _ c.loop-self.invariant.so_far c.put.new.self _ _ (Ok tt) (Waits-put c.loop-self.rest.now c.loop-self.self c.put.new.self (g.O.Sink.taken c.loop-self.out) (g.O.Sink.faults c.loop-self.out) c.put.ensures)
