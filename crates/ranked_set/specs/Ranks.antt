-- The ranks of keys.
use Rattle.std.specs.Prelude.{ℕ, Bool, false, List, Option, Some, None, count_by}
use Rattle.std.specs.declared.cmp.Ordering.{Ordering}
use Rattle.std.specs.Ordering.{is_lt, is_eq}

-- How many keys are less than one.
abbrev pub rank_of : {K : Type 0} → (K → K → Ordering) → List K → K → ℕ
rank_of cmp keys key = count_by (λ k. is_lt (cmp k key)) keys

-- A key was found, and it equals another one.
abbrev pub has_key : {K : Type 0} → (K → K → Ordering) → K → Option K → Bool
has_key cmp key None = false
has_key cmp key (Some found) = is_eq (cmp found key)
