use Rattle.std.proofs.Common.{drop, codes}
use Rattle.arch_model.specs.Archives.{Archive}
use Rattle.arch_model.specs.Validity.{IsArchive}
use Rattle.wire_replies.proofs.Wording.{SoFar}
use Rattle.imap_states.specs.Boxes.{status_list}
use Rattle.imap_states.proofs.status.push_items.Given as goal

abbrev pub invariant-loop-item : goal.invariant-loop-item
invariant-loop-item g l = record {
  so_far : (a : Archive) → g.S.Shelf.holds l.shelf a → IsArchive a →
      SoFar (status_list a l.range (codes "(") l.items) (status_list a l.range l.before (drop l.item-index l.items))
      l.fn.reply (g.O.Sink.taken l.fn.out) (g.O.Sink.faults l.fn.out) l.reply (g.O.Sink.taken l.out) (g.O.Sink.faults l.out);
  sink : g.O.Sink.alike l.fn.out l.out;
}
