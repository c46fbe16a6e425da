-- Private: what a hasher has hashed since an earlier state, and runs of spaces reduced to one
-- space, byte by byte.
use Rattle.std.specs.Prelude.{ℕ, Bool, true, false, ◌==◌, List, [], ◌∷◌, ◌++◌, if◌then◌else◌}
use Rattle.sha2.specs.Hashers.{Holds256}
use Rattle.sha2.specs.declared.Sha256.{Sha256}
use Rattle.mail_reader.specs.Values.{space_for}

-- The hasher has hashed these bytes since the old state.
pub record HasHashed (old new : Sha256) (bytes : List ℕ) : Type 0 where
  pub each : (m : List ℕ) → Holds256 old m → Holds256 new (m ++ bytes)

-- The space that waits for a byte after it, if there is one.
abbrev pub waiting : Bool → List ℕ
waiting true = 32 ∷ []
waiting false = []

-- What a byte adds. The flag says whether a space waits before it.
abbrev pub given_at : Bool → ℕ → List ℕ
given_at spaced b =
    if b == 10 then [] else if space_for b == 32 then [] else waiting spaced ++ space_for b ∷ []

-- A space waits after the byte. The flag says whether one waits before it.
abbrev pub waits_after : Bool → ℕ → Bool
waits_after spaced b = if b == 10 then spaced else space_for b == 32
