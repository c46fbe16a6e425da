use Rattle.std.proofs.Common.{rules, ◌≡◌, ◌+◌, ◌≤◌, true, is_ok, OnOk, ℕ, ◌-◌, ◌*◌, ◌<◌, length, ◌/◌, ◌%◌, Bool, false, nat_eq, nat_lt, List, [], ◌∷◌, ◌++◌, slice_index_or, slice_set, bit_and, bit_or, Fits, w8, w32, w64, Bor, MutBor}
use Rattle.thread_tests.specs.Sixth.{AddsInTwo, TakesInSix, five_rows, six_rows, sixth_keys}
use Rattle.thread_tests.proofs.Sizes.{adds-in-two, takes-in-six}
use Rattle.thread_tests.proofs.sixth.sixth_row_costs.Goals as goal

-- src/sixth.rt:12:1
pub returns-clause-add : goal.returns-clause-add
returns-clause-add c = adds-in-two

-- src/sixth.rt:12:1
pub returns-clause-take : goal.returns-clause-take
returns-clause-take c = takes-in-six
