-- Words one after the other in one list of bytes.
use Rattle.std.specs.Prelude.{◌≡◌, ◌≤◌, ℕ, List, [], ◌∷◌, slice_index_or}
use Rattle.std.specs.List.{between}

-- The words that end at these places: the first starts at a place, and each other one where the word
-- before it ends.
abbrev pub cut_at : List ℕ → ℕ → List ℕ → List (List ℕ)
cut_at bytes start [] = []
cut_at bytes start (end ∷ ends) = between start end bytes ∷ cut_at bytes end ends

-- The places rise from a first one to a last one.
abbrev pub RisesTo : ℕ → List ℕ → ℕ → Type 0
RisesTo start [] last = start ≡ last
RisesTo start (end ∷ ends) last = (start ≤ end) × RisesTo end ends last

-- Where the word with an index starts: at 0, or where the word before it ends.
abbrev pub start_at : List ℕ → ℕ → ℕ
start_at ends index = slice_index_or (0 ∷ ends) index 0
