use Rattle.std.proofs.Common.{◌≡◌, drop}
use Rattle.thread_index.specs.Index.{keys_of_row}
use Rattle.thread_tests.proofs.plain.keys_of.Given as goal

abbrev pub invariant-loop-row : goal.invariant-loop-row
invariant-loop-row l = keys_of_row l.rows l.n ≡ keys_of_row (drop l.row-index l.rows) l.n
