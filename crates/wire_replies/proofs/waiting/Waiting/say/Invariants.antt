use Rattle.std.proofs.Common.{◌+◌, ◌*◌, min, length}
use Rattle.wire_replies.proofs.Wording.{SoFar}
use Rattle.wire_replies.proofs.waiting.Waiting.say.Given as goal

abbrev pub invariant-loop-self : goal.invariant-loop-self
invariant-loop-self g l = record {
  so_far : SoFar l.words l.rest l.fn.self (g.O.Sink.taken l.fn.out) (g.O.Sink.faults l.fn.out) l.self (g.O.Sink.taken l.out) (g.O.Sink.faults l.out);
  sink : g.O.Sink.alike l.fn.out l.out;
}

-- What waits counts, too: a full buffer is written before any word is taken.
abbrev pub decreases-loop-self : goal.decreases-loop-self
decreases-loop-self g l = 2 * length l.rest + min 1 (length l.self)
