-- The words of a text, and the name of a day at its front.
use Rattle.std.specs.Prelude.{ℕ, Bool, false, not, ◌&&◌, ◌||◌, ◌==◌, List, [], ◌∷◌, drop, if◌then◌else◌, codes}
use Rattle.std.specs.List.{onto_first, prefix_len, list_any}
use Rattle.std.specs.Str.{str_eq_ignore_ascii_case}

-- White space: space, tab, carriage return and line feed (RFC 5322, 3.2.2).
abbrev pub is_white : ℕ → Bool
is_white b = b == 32 || b == 9 || b == 13 || b == 10

-- Any other byte. Words consist of these.
abbrev pub is_word_byte : ℕ → Bool
is_word_byte b = not (is_white b)

-- The text from its first byte that isn't white space.
abbrev pub without_white : List ℕ → List ℕ
without_white text = drop (prefix_len is_white text) text

-- The text starts with a byte of a word.
abbrev pub begins_word : List ℕ → Bool
begins_word [] = false
begins_word (b ∷ bs) = is_word_byte b

-- The words of a text: its longest runs of bytes that aren't white space, in order.
abbrev pub words_of : List ℕ → List (List ℕ)
words_of [] = []
words_of (b ∷ bs) =
    if is_white b then words_of bs
    else (if begins_word bs then onto_first b (words_of bs) else (b ∷ []) ∷ words_of bs)

-- The names of the days (RFC 5322, 3.3).
abbrev pub day_names : List (List ℕ)
day_names =
    codes "Mon" ∷ codes "Tue" ∷ codes "Wed" ∷ codes "Thu" ∷ codes "Fri" ∷ codes "Sat"
    ∷ codes "Sun" ∷ []

-- The word is the name of a day, in any case.
abbrev pub is_day_name : List ℕ → Bool
is_day_name word = list_any (λ name. str_eq_ignore_ascii_case word name) day_names

-- The text starts with a day's name and a comma.
abbrev pub begins_with_day : List ℕ → Bool
begins_with_day (a ∷ b ∷ c ∷ d ∷ rest) = d == 44 && is_day_name (a ∷ b ∷ c ∷ [])
begins_with_day _ = false

-- The text without the white space at its front, and without a day's name and its comma if they
-- follow that. The name isn't compared with the date.
abbrev pub without_day : List ℕ → List ℕ
without_day text =
    let body = without_white text in if begins_with_day body then drop 4 body else body
