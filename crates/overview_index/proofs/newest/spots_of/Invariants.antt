use Rattle.std.proofs.Common.{◌≡◌, ◌≤◌, length, drop}
use Rattle.overview_index.specs.Listings.{spots, rows_numbered}
use Rattle.overview_index.proofs.newest.spots_of.Given as goal

abbrev pub invariant-loop-i : goal.invariant-loop-i
invariant-loop-i l = record {
  within : l.i ≤ length l.numbers;
  put : l.found.keys ≡ spots (rows_numbered l.rows.entries (drop l.i l.numbers));
}

abbrev pub decreases-loop-i : goal.decreases-loop-i
decreases-loop-i l = l.i
