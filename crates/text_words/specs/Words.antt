-- The words of a text.
use Rattle.std.specs.Prelude.{◌≡◌, ℕ, Bool, ◌||◌, nat_le, List, ◌++◌, map, take}
use Rattle.std.specs.Char.{is_ascii_alphanumeric}
use Rattle.std.specs.Str.{str_to_ascii_lowercase}
use Rattle.text_words.specs.Runs.{runs}

-- A byte of a word: an ASCII letter or digit, or a byte from 128 up.
abbrev pub is_word_byte : ℕ → Bool
is_word_byte b = is_ascii_alphanumeric b || nat_le 128 b

-- The word of a run of such bytes: its first 64 bytes, in ASCII lower case.
abbrev pub word_of : List ℕ → List ℕ
word_of run = str_to_ascii_lowercase (take 64 run)

-- The words of a text: one for each of its longest runs of such bytes, in order.
abbrev pub words_of : List ℕ → List (List ℕ)
words_of text = map word_of (runs is_word_byte text)

-- Some of the first of these words were appended.
abbrev pub AppendsSome : List (List ℕ) → List (List ℕ) → List (List ℕ) → Type 0
AppendsSome old words new = (count : ℕ) × (new ≡ old ++ take count words)
