use Rattle.std.proofs.Common.{drop}
use Rattle.std.specs.List.{flat_map}
use Rattle.wire_replies.proofs.Wording.{SoFar}
use Rattle.imap_states.specs.States.{expunge_line}
use Rattle.imap_states.proofs.telling.push_gone.Given as goal

abbrev pub invariant-loop-sequence : goal.invariant-loop-sequence
invariant-loop-sequence g l = record {
  so_far : SoFar (flat_map expunge_line l.gone) (flat_map expunge_line (drop l.sequence-index l.gone)) l.fn.reply (g.O.Sink.taken l.fn.out) (g.O.Sink.faults l.fn.out) l.reply (g.O.Sink.taken l.out) (g.O.Sink.faults l.out);
  sink : g.O.Sink.alike l.fn.out l.out;
}
