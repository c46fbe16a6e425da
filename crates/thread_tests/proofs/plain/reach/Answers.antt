use Rattle.std.proofs.Common.{rules, ◌≡◌, ◌==◌, ◌++◌, ◌∷◌, [], map, not, IfOk, OnOk, if◌then◌else◌, ℕ, ◌+◌, ◌-◌, ◌*◌, ◌<◌, ◌≤◌, length, ◌/◌, ◌%◌, Bool, true, false, nat_eq, nat_lt, List, slice_index_or, slice_set, bit_and, bit_or, Fits, w8, w32, w64, Bor, MutBor}
use Rattle.std.specs.List.{filter, list_any}
use Rattle.thread_model.specs.Members.{has}
use Rattle.thread_model.specs.Threads.{KeyedRow, reached, round, shares}
use Rattle.thread_index.specs.Index.{keys_of_row, members_of}
use Rattle.std.proofs.Common.{arith}
use Rattle.thread_tests.proofs.Looped.{rounds-end}
use Rattle.thread_tests.proofs.plain.reach.Goals as goal

-- src/plain.rt:144:1
pub returns : goal.returns
returns c =
    let past : length c.args.rows.now ≤ c.loop-made.made = c.loop-made-test.false in
    let within : c.loop-made.made ≤ length c.args.rows.now = c.loop-made.invariant.within in
    let last : c.loop-made.made ≡ length c.args.rows.now = omega arith in
    rounds-end c.args.rows.now c.args.keys.now c.loop-made.all c.loop-made.made last c.loop-made.invariant.all
