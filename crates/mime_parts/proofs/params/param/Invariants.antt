use Rattle.std.proofs.Common.{◌≡◌, ◌≤◌, ◌-◌, length, drop}
use Rattle.mime_parts.specs.ContentTypes.{param}
use Rattle.mime_parts.proofs.params.param.Given as goal

abbrev pub invariant-loop-at : goal.invariant-loop-at
invariant-loop-at l = record {
  within : l.at ≤ length l.params;
  value : param l.name (drop l.at l.params) ≡ param l.name l.params;
}

abbrev pub decreases-loop-at : goal.decreases-loop-at
decreases-loop-at l = length l.params - l.at
