-- The records up to this number were added.
use Rattle.std.proofs.Common.{◌≡◌, ◌≤◌, ◌-◌, ◌++◌, []}
use Rattle.store_finding.specs.Recovery.{records_from}
use Rattle.store_planning.proofs.mapping.push_none.Given as goal

abbrev pub invariant-loop-number : goal.invariant-loop-number
invariant-loop-number l = record {
  least : l.from ≤ l.number;
  most : l.number ≤ l.to;
  records : l.lines ≡ l.fn.lines ++ records_from l.form [] l.from (l.number - l.from);
}
