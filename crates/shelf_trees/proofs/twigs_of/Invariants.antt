use Rattle.std.proofs.Common.{◌≡◌, [], drop}
use Rattle.arch_model.specs.Archives.{Archive, live}
use Rattle.shelf_trees.specs.Twigs.{twigs_after}
use Rattle.shelf_trees.proofs.twigs_of.Given as goal

abbrev pub invariant-loop-number : goal.invariant-loop-number
invariant-loop-number g l = (a : Archive) → g.S.Shelf.holds l.shelf a
    → twigs_after (live a.entries) l.twigs (drop l.number-index l.numbers) ≡ twigs_after (live a.entries) [] l.numbers
