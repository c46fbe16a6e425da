-- The words of a line (RFC 3977, section 3.1).
use Rattle.std.specs.Prelude.{ℕ, Bool, false, not, ◌||◌, ◌==◌, List, [], ◌∷◌, drop, if◌then◌else◌}
use Rattle.std.specs.List.{onto_first, prefix_len}
use Rattle.std.specs.Str.{str_eq_ignore_ascii_case}

-- The byte separates words: a space or a tab.
abbrev pub is_blank : ℕ → Bool
is_blank b = b == 32 || b == 9

-- Any other byte. Words consist of these.
abbrev pub is_word_byte : ℕ → Bool
is_word_byte b = not (is_blank b)

-- The line from its first byte that is no blank.
abbrev pub without_blanks : List ℕ → List ℕ
without_blanks line = drop (prefix_len is_blank line) line

-- The bytes start with a byte of a word.
abbrev pub begins_word : List ℕ → Bool
begins_word [] = false
begins_word (b ∷ bs) = is_word_byte b

-- The words of a line: its longest runs of bytes that are no blanks, in order.
abbrev pub words_of : List ℕ → List (List ℕ)
words_of [] = []
words_of (b ∷ bs) =
    if is_blank b then words_of bs
    else (if begins_word bs then onto_first b (words_of bs) else (b ∷ []) ∷ words_of bs)

-- The word is this keyword, in any case.
abbrev pub is_keyword : List ℕ → List ℕ → Bool
is_keyword keyword word = str_eq_ignore_ascii_case word keyword
