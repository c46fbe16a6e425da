-- Ordinals of calls.
use Rattle.std.proofs.Common.{suc, ◌≡◌, ◌<◌, ◌+◌, ℕ, false, List, [], ◌∷◌, get_or, refl, arith}
use Rattle.std.proofs.lemmas.Bool.Decides.{nat_tests}
use Rattle.edge_io.specs.Listed.{is_listed}

-- An ordinal above every number of a list is not listed.
pub is_listed-past : (listed : List ℕ) (calls : ℕ) → ((k : ℕ) → get_or listed k 0 < calls + 1) → is_listed listed calls ≡ false
is_listed-past [] calls below = refl
is_listed-past (x ∷ xs) calls below =
    let here : x < calls + 1 = below 0 in
    let rest : (k : ℕ) → get_or xs k 0 < calls + 1 = λ k. below (suc k) in
    let later : is_listed xs calls ≡ false = is_listed-past xs calls rest in
    grind (arith, nat_tests)
