use Rattle.std.proofs.Common.{rules, ◌≡◌, ◌==◌, ◌++◌, ◌∷◌, [], map, not, IfOk, OnOk, if◌then◌else◌, ℕ, ◌+◌, ◌-◌, ◌*◌, ◌<◌, ◌≤◌, length, ◌/◌, ◌%◌, Bool, true, false, nat_eq, nat_lt, List, slice_index_or, slice_set, bit_and, bit_or, Fits, w8, w32, w64, Bor, MutBor}
use Rattle.std.specs.List.{filter, list_any}
use Rattle.thread_model.specs.Members.{has}
use Rattle.thread_model.specs.Threads.{KeyedRow, reached, round, shares}
use Rattle.thread_index.specs.Index.{keys_of_row, members_of}
use Rattle.std.proofs.lemmas.Fn.{filter_same}
use Rattle.thread_tests.proofs.plain.leave.Goals as goal

-- src/plain.rt:69:1
pub returns : goal.returns
returns c = filter_same _ _ _ (λ x b f' k. search rules) _ _ c.retain.ensures.filtered
