-- Counts of faults. Such a count never falls.
use Rattle.std.specs.Prelude.{◌≡◌, ◌+◌, ◌-◌, ◌^◌, ◌≤◌, ℕ, min, Result, OnOk, OnErr}

-- The count rose, or it stands at 2^64 - 1, the end of its type.
abbrev pub Rose : ℕ → ℕ → Type 0
Rose before now = min (before + 1) (2 ^ 64 - 1) ≤ now

-- The count never falls. It rises if the call fails, and stays the same if the call succeeds.
pub record HasCause {T E : Type 0} (before now : ℕ) (result : Result T E) : Type 0 where
  pub later : before ≤ now
  pub failed : OnErr result (Rose before now)
  pub kept : OnOk result (now ≡ before)

-- The count never falls. It rises if there is a fault, and stays the same if there is none.
pub record RoseIf (is_fault : Type 0) (before now : ℕ) : Type 0 where
  pub later : before ≤ now
  pub failed : is_fault → Rose before now
  pub kept : (is_fault → ⊥) → now ≡ before
