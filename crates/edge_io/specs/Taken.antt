-- The bytes that a sink or a connection has taken, if it is told.
use Rattle.std.specs.Prelude.{◌≡◌, ℕ, List, ◌++◌, take, Option, Some, None, Result, MatchResult}

-- The taken bytes, followed by these. None stays None.
abbrev pub plus : Option (List ℕ) → List ℕ → Option (List ℕ)
plus None bytes = None
plus (Some taken) bytes = Some (taken ++ bytes)

-- All bytes were taken. If the call failed, a prefix of them was.
abbrev pub TookBytes : {T E : Type 0} → Result T E → List ℕ → Option (List ℕ) → Option (List ℕ) → Type 0
TookBytes result bytes old new =
    MatchResult result (λ _. new ≡ plus old bytes) (λ _. (n : ℕ) × (new ≡ plus old (take n bytes)))
