-- Private: the marks of words, by which a tree finds them.
use Rattle.std.specs.Prelude.{◌+◌, ◌*◌, ◌%◌, ◌^◌, ℕ, List, [], ◌∷◌}

-- The mark of a word with one more byte.
abbrev pub mark_on : ℕ → ℕ → ℕ
mark_on mark byte = ((mark * 257) % 2 ^ 64 + byte) % 2 ^ 64

-- The mark of a word with more bytes.
abbrev pub mark_from : ℕ → List ℕ → ℕ
mark_from mark [] = mark
mark_from mark (byte ∷ bytes) = mark_from (mark_on mark byte) bytes

-- The mark of a word: its bytes as the digits of a number to the base 257, modulo 2^64.
abbrev pub mark_of : List ℕ → ℕ
mark_of word = mark_from 0 word
