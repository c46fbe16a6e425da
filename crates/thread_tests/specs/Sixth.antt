-- Four rows in one thread, one alone, and a sixth that has a key of both.
use Rattle.std.specs.Prelude.{◌+◌, ◌≤◌, ℕ, List, [], ◌∷◌}
use Rattle.thread_model.specs.Threads.{KeyedRow}
use Rattle.thread_index.specs.Index.{IsCostOfAdd, IsCostOfTake}

-- A key of one letter.
abbrev pub letter : ℕ → List ℕ
letter c = c ∷ []

-- The four rows of one thread, and the one that is alone.
abbrev pub five_rows : List KeyedRow
five_rows = (1, letter 97 ∷ []) ∷ (2, letter 98 ∷ letter 97 ∷ []) ∷ (3, letter 99 ∷ letter 97 ∷ [])
    ∷ (4, letter 100 ∷ letter 97 ∷ []) ∷ (5, letter 101 ∷ []) ∷ []

-- The keys of the sixth row.
abbrev pub sixth_keys : List (List ℕ)
sixth_keys = letter 102 ∷ letter 97 ∷ letter 101 ∷ []

-- The six rows.
abbrev pub six_rows : List KeyedRow
six_rows = (1, letter 97 ∷ []) ∷ (2, letter 98 ∷ letter 97 ∷ []) ∷ (3, letter 99 ∷ letter 97 ∷ [])
    ∷ (4, letter 100 ∷ letter 97 ∷ []) ∷ (5, letter 101 ∷ []) ∷ (6, sixth_keys) ∷ []

-- Adding the sixth row takes at most two steps.
abbrev pub AddsInTwo : Type 0
AddsInTwo = (before after : ℕ) → IsCostOfAdd five_rows sixth_keys before after → after ≤ before + 2

-- Taking it again takes at most six.
abbrev pub TakesInSix : Type 0
TakesInSix = (before after : ℕ) → IsCostOfTake six_rows 6 before after → after ≤ before + 6
