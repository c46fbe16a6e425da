use Rattle.std.proofs.Common.{◌-◌, ◌++◌, ◌≤◌}
use Rattle.arch_model.specs.Archives.{Archive}
use Rattle.wire_replies.proofs.Wording.{SoFar}
use Rattle.imap_states.specs.Lists.{list_lines}
use Rattle.imap_states.proofs.lists.push_names.Given as goal

abbrev pub invariant-loop-index : goal.invariant-loop-index
invariant-loop-index g l = record {
  so_far : (a : Archive) → g.S.Shelf.holds l.shelf a →
      SoFar (list_lines a l.listed.name.now (l.listed.reference.now ++ l.listed.pattern.now) 0 l.count) (list_lines a l.listed.name.now (l.listed.reference.now ++ l.listed.pattern.now) l.index (l.count - l.index))
      l.fn.reply (g.O.Sink.taken l.fn.out) (g.O.Sink.faults l.fn.out) l.reply (g.O.Sink.taken l.out) (g.O.Sink.faults l.out);
  within : l.index ≤ l.count;
  sink : g.O.Sink.alike l.fn.out l.out;
}

abbrev pub decreases-loop-index : goal.decreases-loop-index
decreases-loop-index g l = l.count - l.index
