use Rattle.word_index.proofs.ListLemmas.{rising-none}
use Rattle.word_index.proofs.number_sets.NumberSet.new.Goals as goal

pub invariant_of-result : goal.invariant_of-result
invariant_of-result c = rw c.new.ensures.items rising-none
