use Rattle.std.proofs.Common.{refl}
use Rattle.word_index.proofs.SetLemmas.{place-found, place-last}
use Rattle.word_index.proofs.number_sets.NumberSet.place.Goals as goal

pub returns-then-ends_below : goal.returns-then-ends_below
returns-then-ends_below c =
    rw (← c.self.view_is, ← c.as_slice-numbers.ensures.value) (place-last c.as_slice-numbers.result.now c.args.n (rw c.as_slice-numbers.ensures.value c.self.invariant) (c.if-ends_below.ensures refl))

pub returns : goal.returns
returns c =
    rw (← c.self.view_is, ← c.as_slice-numbers.ensures.value) (place-found c.as_slice-numbers.result.now c.args.n c.binary_search.result (rw c.as_slice-numbers.ensures.value c.self.invariant) c.binary_search.ensures.position)
