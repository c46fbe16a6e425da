-- The epochs so far have plans.
use Rattle.convert_planning.proofs.Starts.{StartsTo}
use Rattle.convert_planning.proofs.converting.epoch_plans.Given as goal

abbrev pub invariant-loop-epoch : goal.invariant-loop-epoch
invariant-loop-epoch l = StartsTo l.plans.items l.epoch
