use Rattle.std.proofs.Common.{◌-◌}
use Rattle.mem_archive.proofs.Numbers.{TriedDown}
use Rattle.mem_archive.proofs.placing.greatest_live.Given as goal

abbrev pub invariant-loop-below : goal.invariant-loop-below
invariant-loop-below l = TriedDown l.places l.number (l.most - l.below)
