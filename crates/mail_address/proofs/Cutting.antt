-- The items of bytes, byte by byte.
use Rattle.std.proofs.Common.{ℕ, ◌+◌, Bool, List, [], ◌∷◌, ◌++◌, take, drop}
use Rattle.mail_address.specs.declared.place.Place.{Place}
use Rattle.mail_address.specs.declared.items.Ending.{Ending}
use Rattle.mail_address.specs.Places.{next_place, marked_by}
use Rattle.mail_address.specs.Items.{cut}

-- More bytes at the front of the first item.
abbrev pub put_before : List ℕ → List (List ℕ × Ending) → List (List ℕ × Ending)
put_before xs [] = []
put_before xs (item ∷ items) = (xs ++ item.0, item.1) ∷ items

-- The items of the bytes from an index on, with the bytes before it in the first item.
abbrev pub cut_from : Bool → Bool → Place → List ℕ → ℕ → List (List ℕ × Ending)
cut_from grouped bracketed place xs i = put_before (take i xs) (cut grouped bracketed (marked_by next_place place (drop i xs)))
