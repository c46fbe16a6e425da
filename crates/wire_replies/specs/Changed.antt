-- Private: what of a text is sent unchanged, and what is sent before it.
use Rattle.std.specs.Prelude.{ℕ, Bool, not, ◌||◌, ◌==◌, List, [], ◌∷◌, if◌then◌else◌}
use Rattle.mail_forms.specs.WireForms.{sent}

-- The byte is sent unchanged: it isn't a line feed, a carriage return or a NUL.
abbrev pub is_unchanged : ℕ → Bool
is_unchanged b = not (b == 10 || b == 13 || b == 0)

-- What is sent for the first of some bytes, or nothing if there is none.
abbrev pub first_sent : List ℕ → List ℕ
first_sent [] = []
first_sent (b ∷ bs) = sent b

-- A dot, if a line starts with one.
abbrev pub dot_before : List ℕ → List ℕ
dot_before [] = []
dot_before (b ∷ bs) = if b == 46 then 46 ∷ [] else []
