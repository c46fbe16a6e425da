-- None of the texts so far clashes.
use Rattle.id_clashes.proofs.Seen.{FoundSoFar}
use Rattle.id_clashes.proofs.clashes.first_clash.Given as goal

abbrev pub invariant-loop-text : goal.invariant-loop-text
invariant-loop-text l = FoundSoFar l.texts l.text-index l.seen
