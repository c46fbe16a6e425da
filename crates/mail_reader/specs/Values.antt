-- The value of a field, unfolded (RFC 5322, section 2.2.3).
use Rattle.std.specs.Prelude.{ℕ, Bool, ◌||◌, not, ◌==◌, List, [], ◌∷◌, map, if◌then◌else◌}
use Rattle.std.specs.List.{filter}
use Rattle.mail_reader.specs.Stored.{without_end}

-- A space for a tab, a carriage return and a NUL, and any other byte unchanged.
abbrev pub space_for : ℕ → ℕ
space_for b = if b == 9 || b == 13 || b == 0 then 32 else b

-- The byte isn't a line feed.
abbrev pub is_no_feed : ℕ → Bool
is_no_feed b = not (b == 10)

-- The value without its line feeds, in which a space replaces each tab, carriage return and NUL.
abbrev pub unfolded : List ℕ → List ℕ
unfolded value = map space_for (filter is_no_feed value)

-- The list without the spaces at its front.
abbrev pub without_front : List ℕ → List ℕ
without_front [] = []
without_front (b ∷ bs) = if b == 32 then without_front bs else b ∷ bs

-- The flat value: it has no line feeds, has a space for each tab, carriage return and NUL, and has
-- no spaces at its ends.
unfoldable pub flat_of : List ℕ → List ℕ
flat_of value = without_end 32 (without_front (unfolded value))
