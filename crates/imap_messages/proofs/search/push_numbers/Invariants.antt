use Rattle.std.proofs.Common.{drop}
use Rattle.std.specs.List.{flat_map}
use Rattle.wire_replies.proofs.Wording.{SoFar}
use Rattle.imap_messages.specs.Seeking.{spaced_number}
use Rattle.imap_messages.proofs.search.push_numbers.Given as goal

abbrev pub invariant-loop-number : goal.invariant-loop-number
invariant-loop-number g l = record {
  so_far : SoFar (flat_map spaced_number l.numbers) (flat_map spaced_number (drop l.number-index l.numbers)) l.fn.reply (g.O.Sink.taken l.fn.out) (g.O.Sink.faults l.fn.out) l.reply (g.O.Sink.taken l.out) (g.O.Sink.faults l.out);
  sink : g.O.Sink.alike l.fn.out l.out;
}
