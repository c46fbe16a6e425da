-- Rows by their numbers, in the order of dates.
use Rattle.std.proofs.Common.{◌≡◌, ◌-◌, ◌+◌, ◌<◌, ◌≤◌, ℕ, List, [], ◌∷◌, ◌++◌, length, map, reverse, drop, get_or, Option, Some, None, refl, sym, ap, ◌∙◌, arith, append_assoc}
use Rattle.std.proofs.lemmas.List.{drop_more, drop_all, reverse-append}
use Rattle.mail_forms.specs.declared.row.Row.{Row}
use Rattle.overview_index.specs.Listings.{spots, with_spot, under, row_in, rows_numbered, number_at}
use Rattle.overview_index.specs.declared.spot.Spot.{Spot}

spots-before : (n : ℕ) (row : Option Row) (rows : List (ℕ × Row)) → spots (under n row ++ rows) ≡ with_spot row (spots rows)
spots-before n None rows = refl
spots-before n (Some row) rows = refl

inside : (i n : ℕ) → 0 < i → i ≤ n → i - 1 < n
inside i n some within = omega (arith, some, within)

before-one : (i : ℕ) → 0 < i → i ≡ i - 1 + 1
before-one i some = omega (arith, some)

-- One number more, before the others.
pub spots-more : (rows : List (ℕ × Row)) (numbers : List ℕ) (i d n : ℕ) (row : Option Row) (old new : List Spot) → 0 < i → i ≤ length numbers → n ≡ get_or numbers (i - 1) d → row ≡ row_in rows n → old ≡ spots (rows_numbered rows (drop i numbers)) → new ≡ with_spot row old
    → new ≡ spots (rows_numbered rows (drop (i - 1) numbers))
spots-more rows numbers i d n row old new some within is row_is old_is new_is =
    new_is
    ∙ ap (with_spot row) (old_is ∙ ap (λ (k : ℕ). spots (rows_numbered rows (drop k numbers))) (before-one i some))
    ∙ sym (spots-before n row (rows_numbered rows (drop (i - 1 + 1) numbers)))
    ∙ ap (λ (found : Option Row). spots (under n found ++ rows_numbered rows (drop (i - 1 + 1) numbers))) row_is
    ∙ ap (λ (m : ℕ). spots (under m (row_in rows m) ++ rows_numbered rows (drop (i - 1 + 1) numbers))) is
    ∙ ap (λ (ns : List ℕ). spots (rows_numbered rows ns)) (sym (drop_more numbers (i - 1) d (inside i (length numbers) some within)))

pub spots-none : (rows : List (ℕ × Row)) (numbers : List ℕ) → spots (rows_numbered rows (drop (length numbers) numbers)) ≡ []
spots-none rows numbers = ap (λ (ns : List ℕ). spots (rows_numbered rows ns)) (drop_all (length numbers) numbers (omega arith))

-- The last of some spots is the first of their numbers.
pub falling-more : (numbers pushed all : List ℕ) (old new : List Spot) (spot : Spot) → old ≡ new ++ spot ∷ [] → pushed ≡ numbers ++ spot.number ∷ [] → numbers ++ map number_at (reverse old) ≡ all → pushed ++ map number_at (reverse new) ≡ all
falling-more numbers pushed all old new spot last push so_far =
    ap (λ (ns : List ℕ). ns ++ map number_at (reverse new)) push
    ∙ append_assoc numbers (spot.number ∷ []) (map number_at (reverse new))
    ∙ ap (λ (ss : List Spot). numbers ++ map number_at ss) (sym (turned new))
    ∙ ap (λ (ss : List Spot). numbers ++ map number_at (reverse ss)) (sym last)
    ∙ so_far
  where
    turned : (ss : List Spot) → reverse (ss ++ spot ∷ []) ≡ spot ∷ reverse ss
    turned ss = reverse-append ss (spot ∷ [])
