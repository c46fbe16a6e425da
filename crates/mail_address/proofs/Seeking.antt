-- The search for a byte, byte by byte.
use Rattle.std.proofs.Common.{◌≡◌, ℕ, ◌+◌, Bool, true, false, cond, List, [], ◌∷◌, Option, None, Some, take, drop, refl, sym, ◌∙◌, ap}
use Rattle.std.proofs.lemmas.List.{take-map}
use Rattle.std.specs.List.{position_or_len, before_first}
use Rattle.mail_address.specs.declared.place.Place.{Place}
use Rattle.mail_address.specs.declared.place.Place.TheVariants.{Comment}
use Rattle.mail_address.specs.declared.place.Sought.{Sought}
use Rattle.mail_address.specs.Places.{next_place, marked_by, bytes_of, is_comment_start}
use Rattle.mail_address.specs.Splits.{split_last, split_with, part_after}
use Rattle.mail_address.specs.Items.{len_before}

pub bytes_of-marked_by : (next : Place → ℕ → Place) (place : Place) (xs : List ℕ) → bytes_of (marked_by next place xs) ≡ xs
bytes_of-marked_by next place [] = refl
bytes_of-marked_by next place (b ∷ bs) = ap (λ (ys : List ℕ). b ∷ ys) (bytes_of-marked_by next (next place b) bs)

-- The bytes before the one searched for.
pub before_first-marked_by : (p : ℕ × Place → Bool) (place : Place) (xs : List ℕ)
    → bytes_of (before_first p (marked_by next_place place xs)) ≡ take (position_or_len p (marked_by next_place place xs)) xs
before_first-marked_by p place xs =
    sym (take-map (λ (mark : ℕ × Place). mark.0) (position_or_len p (marked_by next_place place xs)) (marked_by next_place place xs))
    ∙ ap (take (position_or_len p (marked_by next_place place xs))) (bytes_of-marked_by next_place place xs)

-- The number of bytes before the one searched for, counted from an index on, plus the bytes before
-- that index.
abbrev pub len_from : Sought → Place → List ℕ → ℕ → ℕ
len_from sought place xs i = i + len_before sought place (drop i xs)

-- One byte before others, in the search for the last comment.
pub part_after-split_with : (t : Bool) (x : ℕ × Place) (xs others : List (ℕ × Place)) (parts : Option (List (ℕ × Place) × List (ℕ × Place)))
    → part_after others (split_with t x xs parts) ≡ part_after (cond t xs others) parts
part_after-split_with t x xs others (Some parts) = refl
part_after-split_with true x xs others None = refl
part_after-split_with false x xs others None = refl

-- The marked bytes after the start of the last comment from an index on, or those of an inside that
-- was found before it.
abbrev pub after_from : List ℕ → Place → List ℕ → ℕ → List (ℕ × Place)
after_from inside place xs i = part_after (marked_by next_place (Comment 1) inside) (split_last is_comment_start (marked_by next_place place (drop i xs)))
