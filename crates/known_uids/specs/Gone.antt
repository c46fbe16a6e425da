-- Private: the UIDs that are gone, by a test of a number, and the list while they are taken out.
use Rattle.std.specs.Prelude.{◌≡◌, ◌+◌, ◌-◌, ◌≤◌, ◌==◌, ℕ, Bool, true, not, List, [], ◌∷◌, ◌++◌, set, if◌then◌else◌}
use Rattle.std.specs.List.{AllByRecursion, fold}

-- All of these numbers pass a test.
abbrev pub AllLive : (ℕ → Bool) → List ℕ → Type 0
AllLive test uids = AllByRecursion (λ (n : ℕ). test n ≡ true) uids

-- The sequence numbers of those that don't, the greatest first. `sequence` is that of the first.
abbrev pub gone_by : (ℕ → Bool) → ℕ → List ℕ → List ℕ
gone_by test sequence [] = []
gone_by test sequence (n ∷ ns) =
    gone_by test (sequence + 1) ns ++ (if test n then [] else sequence ∷ [])

-- The sequence number is one of so many, from 1 on.
pub record IsSequence (count sequence : ℕ) : Type 0 where
  pub least : 1 ≤ sequence
  pub most : sequence ≤ count

-- The UIDs with 0 in the place of one, and of several.
abbrev pub strike : List ℕ → ℕ → List ℕ
strike uids sequence = set uids (sequence - 1) 0

abbrev pub struck : List ℕ → List ℕ → List ℕ
struck uids gone = fold strike uids gone

-- The number isn't 0.
abbrev pub is_there : ℕ → Bool
is_there n = not (n == 0)
