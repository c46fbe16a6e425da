-- The loops of the plain program.
use Rattle.std.proofs.Common.{◌≡◌, ℕ, List, length, ◌∙◌, ap}
use Rattle.thread_model.specs.Threads.{KeyedRow, rounds, reached}

-- All rounds were made.
pub rounds-end : (rows : List KeyedRow) (keys all : List (List ℕ)) (i : ℕ) → i ≡ length rows → all ≡ rounds i rows keys → all ≡ reached rows keys
unfolding reached
rounds-end rows keys all i last is = is ∙ ap (λ (n : ℕ). rounds n rows keys) last
