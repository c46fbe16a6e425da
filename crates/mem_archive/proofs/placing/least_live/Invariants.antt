use Rattle.mem_archive.proofs.Numbers.{TriedUp}
use Rattle.mem_archive.proofs.placing.least_live.Given as goal

abbrev pub invariant-loop-least : goal.invariant-loop-least
invariant-loop-least l = TriedUp l.places l.number l.least
