-- The bytes of markup.
use Rattle.std.specs.Prelude.{ℕ, Bool, ◌||◌, ◌==◌, List, filter}

-- The byte begins or ends a tag, or the value of an attribute.
abbrev pub is_markup : ℕ → Bool
is_markup b = b == 60 || b == 62 || b == 34

-- Those bytes of a text.
abbrev pub markup : List ℕ → List ℕ
markup text = filter is_markup text
