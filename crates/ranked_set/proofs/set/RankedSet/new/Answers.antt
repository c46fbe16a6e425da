use Rattle.ranked_set.proofs.SortedKeys.{sorted_nil}
use Rattle.ranked_set.proofs.set.RankedSet.new.Goals as goal

pub invariant_of-result : goal.invariant_of-result
invariant_of-result g c = rw c.new.ensures (sorted_nil g.K.Ord.cmp)
