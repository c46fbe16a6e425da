use Rattle.std.proofs.Common.{◌≡◌, map, take}
use Rattle.text_words.specs.Sets.{lent}
use Rattle.text_words.proofs.sets.slices.Given as goal

abbrev pub invariant-loop-index : goal.invariant-loop-index
invariant-loop-index l = map lent l.found.items ≡ take l.index l.words
