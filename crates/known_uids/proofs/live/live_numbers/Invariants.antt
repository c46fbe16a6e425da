use Rattle.std.proofs.Common.{◌≡◌, ◌+◌, ◌-◌, ◌≤◌, ◌++◌}
use Rattle.arch_model.specs.Archives.{Archive}
use Rattle.known_uids.specs.Told.{live_in, RisesBelow}
use Rattle.known_uids.proofs.live.live_numbers.Given as goal

abbrev pub invariant-loop-found : goal.invariant-loop-found
invariant-loop-found g l = record {
  numbers : (a : Archive) → g.S.Shelf.holds l.shelf a → l.numbers.items ++ live_in a l.at l.last ≡ live_in a l.first l.last;
  rising : RisesBelow l.first l.numbers.items l.at;
  order : l.at ≤ l.last + 1;
}

abbrev pub decreases-loop-found : goal.decreases-loop-found
decreases-loop-found g l = l.last + 1 - l.at
