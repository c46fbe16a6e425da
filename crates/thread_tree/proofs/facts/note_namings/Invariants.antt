use Rattle.std.proofs.Common.{take}
use Rattle.thread_tree.specs.Facts.{NamesAll}
use Rattle.thread_tree.proofs.facts.note_namings.Given as goal

abbrev pub invariant-loop-id : goal.invariant-loop-id
invariant-loop-id l = NamesAll l.initial.namings l.namings (take l.id-index l.id-items) l.naming
