use Rattle.std.proofs.Common.{◌≡◌, map, take}
use Rattle.text_words.specs.Sets.{lent}
use Rattle.text_words.proofs.sets.packed.Given as goal

abbrev pub invariant-loop-word : goal.invariant-loop-word
invariant-loop-word l = l.made ≡ map lent (take l.word-index l.words)
