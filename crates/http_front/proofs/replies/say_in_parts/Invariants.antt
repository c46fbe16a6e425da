use Rattle.std.proofs.Common.{length}
use Rattle.http_front.proofs.Parts.{WrittenUpTo}
use Rattle.http_front.proofs.replies.say_in_parts.Given as goal

abbrev pub invariant-loop-rest : goal.invariant-loop-rest
invariant-loop-rest g l = record {
  written : WrittenUpTo l.words l.rest (g.O.Sink.taken l.fn.out) (g.O.Sink.faults l.fn.out) (g.O.Sink.taken l.out) (g.O.Sink.faults l.out);
  sink : g.O.Sink.alike l.fn.out l.out;
}

abbrev pub decreases-loop-rest : goal.decreases-loop-rest
decreases-loop-rest g l = length l.rest
