-- What is left to add leads to the whole.
use Rattle.std.specs.Prelude.{◌≡◌, ◌++◌, drop}
use Rattle.convert_planning.specs.ConvertSteps.{two_ids}
use Rattle.convert_planning.proofs.clashing.ids_of.Given as goal

abbrev pub invariant-loop-index : goal.invariant-loop-index
invariant-loop-index l = l.ids ++ two_ids (drop l.index l.old) (drop l.index l.new) ≡ two_ids l.old l.new
