-- A day in ranges, range by range.
use Rattle.std.proofs.Common.{◌≡◌, ℕ, ◌≤◌, Bool, true, ◌&&◌, List, [], ◌∷◌, length, get_or, drop, ap, arith}
use Rattle.query_lang.specs.Matching.{is_between, in_ranges}

-- The day lies in the first range.
pub ranges-more : (days : List ℕ) (day : ℕ) → 2 ≤ length days → is_between day (get_or days 0 0) (get_or days 1 0) ≡ true → in_ranges days day ≡ in_ranges (drop 2 days) day
ranges-more [] day long inside = absurd (omega arith)
ranges-more (first ∷ []) day long inside = absurd (omega arith)
ranges-more (first ∷ last ∷ days) day long inside = ap (λ (b : Bool). b && in_ranges days day) inside
