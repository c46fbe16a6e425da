-- Texts in texts (RFC 3501, section 6.4.4: a string matches if it is a substring).
use Rattle.std.specs.Prelude.{ℕ, Bool, true, false, ◌&&◌, ◌||◌, ◌==◌, List, [], ◌∷◌}
use Rattle.std.specs.Str.{str_to_ascii_lowercase}

-- The text starts with another.
abbrev pub starts : List ℕ → List ℕ → Bool
starts [] text = true
starts (b ∷ bs) [] = false
starts (b ∷ bs) (c ∷ cs) = b == c && starts bs cs

-- The text has another in it.
abbrev pub has_piece : List ℕ → List ℕ → Bool
has_piece piece [] = starts piece []
has_piece piece (c ∷ cs) = starts piece (c ∷ cs) || has_piece piece cs

-- The same without regard to the case of ASCII letters.
abbrev pub is_found : List ℕ → List ℕ → Bool
is_found piece text = has_piece (str_to_ascii_lowercase piece) (str_to_ascii_lowercase text)
