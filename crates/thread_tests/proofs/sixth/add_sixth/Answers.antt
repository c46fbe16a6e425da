use Rattle.std.proofs.Common.{rules, ◌≡◌, ◌+◌, ◌≤◌, true, is_ok, OnOk, ℕ, ◌-◌, ◌*◌, ◌<◌, length, ◌/◌, ◌%◌, Bool, false, nat_eq, nat_lt, List, [], ◌∷◌, ◌++◌, slice_index_or, slice_set, bit_and, bit_or, Fits, w8, w32, w64, Bor, MutBor}
use Rattle.thread_tests.specs.Sixth.{AddsInTwo, TakesInSix, five_rows, six_rows, sixth_keys}
use Rattle.std.proofs.Common.{subst}
use Rattle.std.proofs.lemmas.Result.{on_ok_weaker}
use Rattle.thread_model.specs.Threads.{KeyedRow}
use Rattle.thread_index.specs.Index.{IsCostOfAdd}
use Rattle.thread_tests.proofs.sixth.add_sixth.Goals as goal

-- src/sixth.rt:18:1
pub returns-clause-steps : goal.returns-clause-steps
returns-clause-steps g c =
    on_ok_weaker c.add.result
    (λ cost. c.sixth_row_costs.ensures.add c.args.steps.now c.add.new.steps
    (subst (λ (ks : List (List ℕ)). IsCostOfAdd five_rows ks c.args.steps.now c.add.new.steps) c.requires.keys
    (subst (λ (rows : List KeyedRow). IsCostOfAdd rows c.args.keys.now c.args.steps.now c.add.new.steps) c.requires.rows cost)))
    c.add.ensures.steps
