-- None of the plans so far is that of the part.
use Rattle.std.specs.Prelude.{◌≡◌, drop}
use Rattle.root_change.specs.Rewriting.{plan_of}
use Rattle.store_planning.proofs.planning.Planner.find.Given as goal

abbrev pub invariant-loop-at : goal.invariant-loop-at
invariant-loop-at l = plan_of l.self.plans l.kind l.number ≡ plan_of (drop l.at l.self.plans) l.kind l.number
