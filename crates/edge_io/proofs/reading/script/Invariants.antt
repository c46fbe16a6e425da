use Rattle.std.proofs.Common.{◌≡◌, ◌++◌, length, All}
use Rattle.edge_io.specs.Scripts.{IsArrival, spelled_all}
use Rattle.edge_io.proofs.reading.script.Given as goal

abbrev pub invariant-loop-rest : goal.invariant-loop-rest
invariant-loop-rest l = record { each : All IsArrival l.made; spells : l.bytes ≡ spelled_all l.made ++ l.rest }

abbrev pub decreases-loop-rest : goal.decreases-loop-rest
decreases-loop-rest l = length l.rest
