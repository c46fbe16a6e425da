-- The terms of a query, and the words that they ask.
use Rattle.std.specs.Prelude.{ℕ, Bool, false, not, ◌&&◌, ◌==◌, List, ◌∷◌, drop, Option, Some, None, if◌then◌else◌}
use Rattle.std.specs.List.{filter, filter_map, flat_map}
use Rattle.text_words.specs.Runs.{runs}
use Rattle.text_words.specs.Words.{words_of}

-- A byte of a term: any but a space.
abbrev pub is_term_byte : ℕ → Bool
is_term_byte b = not (b == 32)

-- The terms of a query: what stands between its spaces, in order.
abbrev pub terms_of : List ℕ → List (List ℕ)
terms_of text = runs is_term_byte text

-- The term starts with a letter and a colon.
abbrev pub starts : ℕ → List ℕ → Bool
starts letter (a ∷ b ∷ rest) = a == letter && b == 58
starts letter _ = false

-- The rest of a term that starts with a letter and a colon.
abbrev pub after : ℕ → List ℕ → Option (List ℕ)
after letter term = if starts letter term then Some (drop 2 term) else None

-- The term starts with none of the prefixes `s:`, `f:`, `b:` and `d:`.
abbrev pub is_plain : List ℕ → Bool
is_plain term =
    not (starts 115 term) && not (starts 102 term) && not (starts 98 term)
    && not (starts 100 term)

-- The words that the terms without a prefix ask, in order.
abbrev pub plain_words : List (List ℕ) → List (List ℕ)
plain_words terms = flat_map words_of (filter is_plain terms)

-- The words that the terms with a prefix ask, in order. They stand after it.
abbrev pub prefixed_words : ℕ → List (List ℕ) → List (List ℕ)
prefixed_words letter terms = flat_map words_of (filter_map (after letter) terms)
