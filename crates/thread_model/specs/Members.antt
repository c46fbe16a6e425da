-- What a list holds.
use Rattle.std.specs.Prelude.{◌≡◌, ◌⊎◌, ◌<◌, ℕ, Bool, ◌==◌, List, [], ◌∷◌}
use Rattle.std.specs.List.{list_any}
use Rattle.std.specs.Str.{bytes_eq}

-- The item is one of the list.
abbrev pub Among : {X : Type 0} → List X → X → Type 0
Among [] x = ⊥
Among (y ∷ ys) x = (x ≡ y) ⊎ Among ys x

-- No number stands twice.
abbrev pub Once : List ℕ → Type 0
Once [] = Unit {0}
Once (n ∷ ns) = (Among ns n → ⊥) × Once ns

-- Each number is below all that follow it.
abbrev pub Rises : List ℕ → Type 0
Rises [] = Unit {0}
Rises (n ∷ ns) = ((m : ℕ) → Among ns m → n < m) × Rises ns

-- Whether a text is one of some texts.
abbrev pub has : List (List ℕ) → List ℕ → Bool
has texts text = list_any (λ (t : List ℕ). bytes_eq t text) texts

-- Whether a number is one of some numbers.
abbrev pub has_number : List ℕ → ℕ → Bool
has_number ns n = list_any (λ (m : ℕ). m == n) ns
