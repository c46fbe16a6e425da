use Rattle.mem_archive.proofs.Numbers.{Counted}
use Rattle.mem_archive.proofs.placing.count_live.Given as goal

abbrev pub invariant-loop-found : goal.invariant-loop-found
invariant-loop-found l = Counted l.places l.low l.high l.found-index l.number l.count
