-- Wildmats: lists of patterns of names (RFC 3977, section 4, without its syntax errors).
use Rattle.std.specs.Prelude.{◌≡◌, ℕ, ◌≤◌, Bool, true, false, ◌&&◌, ◌||◌, ◌==◌, List, [], ◌∷◌, length, drop, slice_index_or, Option, Some, None, if◌then◌else◌}
use Rattle.std.specs.List.{list_any}
use Rattle.std.specs.Option.{unwrap_or}

-- The byte has no meaning in a wildmat: a bracket or a backslash.
abbrev pub is_special : ℕ → Bool
is_special b = b == 91 || b == 93 || b == 92

-- The test passes at a list, or after some of its first elements are left out.
abbrev pub some_end : (List ℕ → Bool) → List ℕ → Bool
some_end test [] = test []
some_end test (b ∷ bs) = test (b ∷ bs) || some_end test bs

-- A byte of a pattern that isn't `*` fits a byte of a name.
abbrev pub fits : ℕ → ℕ → Bool
fits p b = p == 63 || p == b

-- The byte fits the first one of a name, and the test passes at the others.
abbrev pub fits_first : ℕ → (List ℕ → Bool) → List ℕ → Bool
fits_first p test [] = false
fits_first p test (b ∷ bs) = fits p b && test bs

-- The pattern matches the name: `*` stands for any bytes, `?` for one, all else for itself.
unfoldable pub pattern_matches : List ℕ → List ℕ → Bool
pattern_matches [] name = length name == 0
pattern_matches (p ∷ ps) name =
    if p == 42 then some_end (pattern_matches ps) name else fits_first p (pattern_matches ps) name

-- What a pattern says of a name: nothing if it doesn't match.
abbrev pub says_of : List ℕ → Bool → List ℕ → Option Bool
says_of pattern said name = if pattern_matches pattern name then Some said else None

-- The same of a pattern that may come after a `!`, which turns it.
abbrev pub says : List ℕ → List ℕ → Option Bool
says [] name = says_of [] true name
says (p ∷ ps) name = if p == 33 then says_of ps false name else says_of (p ∷ ps) true name

-- Parts, of which the first begins with one more byte.
abbrev pub with_byte : ℕ → List (List ℕ) → List (List ℕ)
with_byte b [] = (b ∷ []) ∷ []
with_byte b (part ∷ parts) = (b ∷ part) ∷ parts

-- The parts of a text between commas (RFC 3977, section 4).
abbrev pub parts_of : List ℕ → List (List ℕ)
parts_of [] = [] ∷ []
parts_of (b ∷ bs) = if b == 44 then [] ∷ parts_of bs else with_byte b (parts_of bs)

-- What the last of the patterns says that matches, or what was said before.
abbrev pub last_said : Bool → List (List ℕ) → List ℕ → Bool
last_said before [] name = before
last_said before (pattern ∷ patterns) name =
    last_said (unwrap_or (says pattern name) before) patterns name

-- The last pattern between commas that matches the name says yes. None that matches says no.
unfoldable pub decided : List ℕ → List ℕ → Bool
decided wildmat name = last_said false (parts_of wildmat) name

-- Whether the wildmat matches the name, if it is one.
abbrev pub wildmat_matches : List ℕ → List ℕ → Option Bool
wildmat_matches wildmat name =
    if list_any is_special wildmat then None else Some (decided wildmat name)

-- What matches any bytes or one, as the byte of a pattern says, and then what passes the test.
abbrev pub after_byte : ℕ → (List ℕ → Bool) → List ℕ → Bool
after_byte p test name = if p == 42 then some_end test name else fits_first p test name

-- The flags tell at each end of a name whether the test passes there.
abbrev pub Tells : (List ℕ → Bool) → List ℕ → List Bool → Type 0
Tells test name flags =
    (i : ℕ) → i ≤ length name → slice_index_or flags i false ≡ test (drop i name)
