use Rattle.std.proofs.Common.{◌≡◌, ◌++◌, take}
use Rattle.arch_model.specs.Archives.{Archive, live}
use Rattle.control_door.specs.Threads.{nodes_words}
use Rattle.control_door.proofs.thread.push_nodes.Given as goal

abbrev pub invariant-loop-line : goal.invariant-loop-line
invariant-loop-line g l = (a : Archive) → g.S.Shelf.holds l.shelf a
    → l.into ≡ l.fn.into ++ nodes_words (live a.entries) (take l.line-index l.lines)
