use Rattle.std.proofs.Common.{◌+◌, ◌-◌, length}
use Rattle.word_index.specs.Postings.{SamePosted}
use Rattle.word_index.proofs.postings.fill.Given as goal

abbrev pub invariant-loop-alloc : goal.invariant-loop-alloc
invariant-loop-alloc l = SamePosted l.fn.sets.items l.sets.items

abbrev pub decreases-loop-alloc : goal.decreases-loop-alloc
decreases-loop-alloc l = l.place + 1 - length l.sets.items
