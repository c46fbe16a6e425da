-- Words within a text.
use Rattle.std.specs.Prelude.{◌≡◌, ◌<◌, ℕ, Bool, not, ◌==◌, List, [], ◌∷◌, length, Option, Some, None, if◌then◌else◌}
use Rattle.std.specs.Borrow.{Bor}
use Rattle.std.specs.Str.{str_eq_ignore_ascii_case}

-- The word is a keyword, in any case.
abbrev pub is_keyword : List ℕ → List ℕ → Bool
is_keyword keyword word = str_eq_ignore_ascii_case word keyword

-- The octet is another one.
abbrev pub is_other : ℕ → ℕ → Bool
is_other b c = not (c == b)

-- The words with an octet at the front of the first one.
abbrev pub longer_first : ℕ → List (List ℕ) → List (List ℕ)
longer_first b [] = (b ∷ []) ∷ []
longer_first b (word ∷ words) = (b ∷ word) ∷ words

-- The words between the octets `b` of a text: one more than there are such octets.
abbrev pub words_at : ℕ → List ℕ → List (List ℕ)
words_at b [] = [] ∷ []
words_at b (c ∷ cs) = if c == b then [] ∷ words_at b cs else longer_first c (words_at b cs)

-- A text is its first word alone, or that word and a shorter text of the others.
abbrev pub Splits : ℕ → List ℕ → List ℕ → Option (Bor (List ℕ)) → Type 0
Splits b text first None = words_at b text ≡ first ∷ []
Splits b text first (Some rest) =
    (words_at b text ≡ first ∷ words_at b rest.now) × (length rest.now < length text)
