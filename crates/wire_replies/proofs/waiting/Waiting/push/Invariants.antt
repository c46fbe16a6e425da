use Rattle.std.proofs.Common.{drop}
use Rattle.wire_replies.specs.Phrases.{words_of}
use Rattle.wire_replies.proofs.Wording.{SoFar}
use Rattle.wire_replies.proofs.waiting.Waiting.push.Given as goal

abbrev pub invariant-loop-phrase : goal.invariant-loop-phrase
invariant-loop-phrase g l = record {
  so_far : SoFar (words_of l.phrases) (words_of (drop l.phrase-index l.phrases)) l.fn.self (g.O.Sink.taken l.fn.out) (g.O.Sink.faults l.fn.out) l.self (g.O.Sink.taken l.out) (g.O.Sink.faults l.out);
  sink : g.O.Sink.alike l.fn.out l.out;
}
