-- The remaining bytes of a source, if it is told.
use Rattle.std.specs.Prelude.{◌≡◌, ℕ, List, [], ◌++◌, take, Option, Some, None}

-- The bytes, followed by the remaining ones. None stays None.
abbrev pub before : List ℕ → Option (List ℕ) → Option (List ℕ)
before bytes None = None
before bytes (Some left) = Some (bytes ++ left)

-- No bytes remain, if they are told.
abbrev pub IsUsedUp : Option (List ℕ) → Type 0
IsUsedUp None = Unit {0}
IsUsedUp (Some left) = left ≡ []

-- The first `count` bytes of the buffer were removed from the front of the remaining bytes. The
-- count is 0 only if no bytes remained.
pub record GaveBytes (count : ℕ) (into : List ℕ) (old new : Option (List ℕ)) : Type 0 where
  pub taken : old ≡ before (take count into) new
  pub end : count ≡ 0 → IsUsedUp old
