-- The sizes of the threads that the sixth row joins, and of its own.
use Rattle.std.proofs.Common.{◌≡◌, ◌+◌, ◌≤◌, ℕ, List, [], ◌∷◌, length, refl, inl, inr, arith}
use Rattle.thread_model.specs.Members.{Among}
use Rattle.thread_model.specs.Threads.{KeyedRow, thread, reached}
use Rattle.thread_index.specs.Index.{IsCostOfAdd, IsCostOfTake}
use Rattle.thread_tests.specs.Sixth.{AddsInTwo, TakesInSix, five_rows, six_rows, sixth_keys, letter}

joined-size : length (thread five_rows sixth_keys) ≡ 5
unfolding reached
joined-size = refl

four-size : length (thread five_rows (letter 97 ∷ [])) ≡ 4
unfolding reached
four-size = refl

first-joined : Among (thread five_rows sixth_keys) (1, letter 97 ∷ [])
unfolding reached
first-joined = inl refl

six-size : length (thread six_rows sixth_keys) ≡ 6
unfolding reached
six-size = refl

pub adds-in-two : AddsInTwo
adds-in-two before after cost =
    let joined : length (thread five_rows sixth_keys) ≡ 5 = joined-size in
    let four : length (thread five_rows (letter 97 ∷ [])) ≡ 4 = four-size in
    let but : after + length (thread five_rows (letter 97 ∷ [])) ≤ before + 1 + length (thread five_rows sixth_keys) = cost.but_one (1, letter 97 ∷ []) first-joined in
    omega arith

pub takes-in-six : TakesInSix
takes-in-six before after cost =
    let six : length (thread six_rows sixth_keys) ≡ 6 = six-size in
    let own : after ≤ before + length (thread six_rows sixth_keys) = cost (6, sixth_keys) (inr (inr (inr (inr (inr (inl refl)))))) refl in
    omega arith
