-- Runs of bytes in a text.
use Rattle.std.specs.Prelude.{ℕ, Bool, false, not, List, [], ◌∷◌, if◌then◌else◌}
use Rattle.std.specs.List.{onto_first}

module _ (test : ℕ → Bool) where
  -- The byte doesn't pass the test.
  abbrev pub fails : ℕ → Bool
  fails b = not (test b)

  -- The text starts with a byte that passes.
  abbrev pub begins : List ℕ → Bool
  begins [] = false
  begins (b ∷ bs) = test b

  -- The longest runs of bytes that pass, in order.
  abbrev pub runs : List ℕ → List (List ℕ)
  runs [] = []
  runs (b ∷ bs) =
      if test b
      then (if begins bs then onto_first b (runs bs) else (b ∷ []) ∷ runs bs)
      else runs bs
