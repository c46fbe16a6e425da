-- The map is planned up to the last number that was left out.
use Rattle.std.proofs.Common.{◌≤◌, drop}
use Rattle.number_map.specs.Rewriting.{PlansMap}
use Rattle.number_map.proofs.Planned.{AreLeft}
use Rattle.number_map.proofs.rewriting.plan_without.Given as goal

abbrev pub invariant-loop-number : goal.invariant-loop-number
invariant-loop-number l = record {
  bound : l.done ≤ l.count;
  left : AreLeft l.gone l.done l.count (drop l.number-index l.gone);
  planned : PlansMap l.form l.file l.done l.gone l.plan;
}
