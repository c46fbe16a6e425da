use Rattle.std.proofs.Common.{length}
use Rattle.mail_forms.specs.WireForms.{wire_of}
use Rattle.wire_replies.proofs.Wording.{SoFar}
use Rattle.wire_replies.proofs.waiting.Waiting.wire.Given as goal

abbrev pub invariant-loop-rest : goal.invariant-loop-rest
invariant-loop-rest g l = record {
  so_far : SoFar (wire_of l.bytes) (wire_of l.rest) l.fn.self (g.O.Sink.taken l.fn.out) (g.O.Sink.faults l.fn.out) l.self (g.O.Sink.taken l.out) (g.O.Sink.faults l.out);
  sink : g.O.Sink.alike l.fn.out l.out;
}

abbrev pub decreases-loop-rest : goal.decreases-loop-rest
decreases-loop-rest g l = length l.rest
