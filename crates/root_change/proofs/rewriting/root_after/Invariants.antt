-- The places of the plans so far are set.
use Rattle.std.specs.Prelude.{take}
use Rattle.root_change.specs.Rewriting.{IsRootAfter}
use Rattle.root_change.proofs.rewriting.root_after.Given as goal

abbrev pub invariant-loop-plan : goal.invariant-loop-plan
invariant-loop-plan l = record {
  after : IsRootAfter l.old (take l.plan-index l.plans) l.number l.fn.form l.new;
}
