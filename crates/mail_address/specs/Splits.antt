-- A list, split at the last element that passes a test.
use Rattle.std.specs.Prelude.{ℕ, Bool, true, false, ◌==◌, List, [], ◌∷◌, Option, None, Some}

-- The split of a list with one more element at the front, from the split of the list.
abbrev pub split_with : {X : Type 0} → Bool → X → List X → Option (List X × List X)
    → Option (List X × List X)
split_with passes x xs (Some parts) = Some (x ∷ parts.0, parts.1)
split_with true x xs None = Some ([], xs)
split_with false x xs None = None

-- The elements before and after the last one that passes, or `None` if none does.
abbrev pub split_last : {X : Type 0} → (X → Bool) → List X → Option (List X × List X)
split_last p [] = None
split_last p (x ∷ xs) = split_with (p x) x xs (split_last p xs)

-- The elements after the last one that passes, or `others` if none does.
abbrev pub part_after : {X : Type 0} → List X → Option (List X × List X) → List X
part_after others None = others
part_after others (Some parts) = parts.1

-- The elements before the last one that passes, or `others` if none does.
abbrev pub part_before : {X : Type 0} → List X → Option (List X × List X) → List X
part_before others None = others
part_before others (Some parts) = parts.0

-- The test for one byte.
abbrev pub is_this : ℕ → ℕ → Bool
is_this c b = b == c
