-- Patterns of mailboxes' names (RFC 3501, section 6.3.8). No name has levels, so both wildcards stand
-- for any bytes.
use Rattle.std.specs.Prelude.{◌≡◌, ◌≤◌, ℕ, Bool, true, false, ◌&&◌, ◌||◌, ◌==◌, List, [], ◌∷◌, length, drop, slice_index_or, if◌then◌else◌}

-- The byte stands for any bytes: `*` or `%`.
abbrev pub is_wildcard : ℕ → Bool
is_wildcard b = b == 42 || b == 37

-- The test passes at a name, or after some of its first bytes.
abbrev pub some_rest : (List ℕ → Bool) → List ℕ → Bool
some_rest test [] = test []
some_rest test (b ∷ bs) = test (b ∷ bs) || some_rest test bs

-- The byte is the first one of a name, and the test passes at the others.
abbrev pub same_first : ℕ → (List ℕ → Bool) → List ℕ → Bool
same_first p test [] = false
same_first p test (b ∷ bs) = p == b && test bs

-- What matches any bytes or one, as the byte of a pattern says, and then what passes the test.
abbrev pub behind_byte : ℕ → (List ℕ → Bool) → List ℕ → Bool
behind_byte p test name = if is_wildcard p then some_rest test name else same_first p test name

-- The pattern, and then what passes the test, match the name: a wildcard stands for any bytes, each
-- other byte for itself.
unfoldable pub pattern_then : List ℕ → (List ℕ → Bool) → List ℕ → Bool
pattern_then [] test name = test name
pattern_then (p ∷ ps) test name = behind_byte p (pattern_then ps test) name

-- No byte is left.
abbrev pub none_left : List ℕ → Bool
none_left name = length name == 0

-- The pattern matches the name.
abbrev pub matches_name : List ℕ → List ℕ → Bool
matches_name pattern name = pattern_then pattern none_left name

-- The flags tell at each index of a name whether the test passes from there on.
abbrev pub TellsRests : (List ℕ → Bool) → List ℕ → List Bool → Type 0
TellsRests test name flags =
    (i : ℕ) → i ≤ length name → slice_index_or flags i false ≡ test (drop i name)
