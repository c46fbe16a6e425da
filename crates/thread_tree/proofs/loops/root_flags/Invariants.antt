use Rattle.std.proofs.Common.{take}
use Rattle.thread_tree.proofs.Marks.{AreMarked}
use Rattle.thread_tree.proofs.loops.root_flags.Given as goal

abbrev pub invariant-loop-to : goal.invariant-loop-to
invariant-loop-to l = AreMarked l.ups (take l.to-index l.to-items) l.flags.items
