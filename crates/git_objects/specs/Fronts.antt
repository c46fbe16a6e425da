-- Pieces at the front of bytes. A kind of piece is given as `spell`, the piece of a value before
-- the bytes that follow it, and `valid`, which values have a piece.
use Rattle.std.specs.Prelude.{◌≡◌, ◌≢◌, ℕ, List, [], ◌∷◌, ◌++◌}

-- The bytes don't start with a piece of the kind.
abbrev pub Lacks : {V : Type 0} → (V → Type 0) → (V → List ℕ → List ℕ) → List ℕ → Type 0
Lacks {V} valid spell bytes = (v : V) (rest : List ℕ) → valid v → bytes ≢ spell v rest

-- The bytes start with the piece of this value, followed by this rest, and with no other.
pub record Begins {V : Type 0} (valid : V → Type 0) (spell : V → List ℕ → List ℕ) (bytes : List ℕ)
    (v : V) (rest : List ℕ) : Type 0 where
  pub valid_one : valid v
  pub spelled : bytes ≡ spell v rest
  pub only : (w : V) (more : List ℕ) → valid w → bytes ≡ spell w more → (v ≡ w) × (rest ≡ more)

-- A word, then the piece of a value.
abbrev pub led : {V : Type 0} → List ℕ → (V → List ℕ → List ℕ) → V → List ℕ → List ℕ
led word spell v rest = word ++ spell v rest

-- The piece of a value, then a word.
abbrev pub followed : {V : Type 0} → (V → List ℕ → List ℕ) → List ℕ → V → List ℕ → List ℕ
followed spell word v rest = spell v (word ++ rest)

-- The pieces of two values, one after the other.
abbrev pub in_turn : {A B : Type 0} → (A → List ℕ → List ℕ) → (B → List ℕ → List ℕ) → A × B → List ℕ
    → List ℕ
in_turn first second pair rest = first pair.0 (second pair.1 rest)

-- Both values have a piece.
abbrev pub Both : {A B : Type 0} → (A → Type 0) → (B → Type 0) → A × B → Type 0
Both first second pair = first pair.0 × second pair.1

-- No byte of the bytes is c.
abbrev pub NoByte : ℕ → List ℕ → Type 0
NoByte c [] = Unit {0}
NoByte c (b ∷ bs) = (b ≡ c → ⊥) × NoByte c bs

-- The new bytes are the old ones with a piece appended.
abbrev pub AppendsPiece : List ℕ → List ℕ → (List ℕ → List ℕ) → Type 0
AppendsPiece old new piece = (rest : List ℕ) → new ++ rest ≡ old ++ piece rest
