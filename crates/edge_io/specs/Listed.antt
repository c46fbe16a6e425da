-- Private: counts of calls, and lists of the calls that fail.
use Rattle.std.specs.Prelude.{ℕ, ◌+◌, ◌-◌, ◌^◌, Bool, ◌==◌, List, min}
use Rattle.std.specs.List.{list_any}

-- The count plus one, or 2^64 - 1 if it is there already.
abbrev pub raised : ℕ → ℕ
raised count = min (count + 1) (2 ^ 64 - 1)

-- The call after `calls` earlier calls is listed, by its ordinal from 1. A count at the end of its
-- type stands for all later calls, whose ordinals are in no list.
abbrev pub is_listed : List ℕ → ℕ → Bool
is_listed listed calls = list_any (λ ordinal. ordinal == calls + 1) listed
