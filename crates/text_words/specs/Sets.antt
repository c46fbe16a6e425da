-- The words of a list in order, each once.
use Rattle.std.specs.Prelude.{ℕ, List, [], ◌∷◌}
use Rattle.std.specs.BTreeSet.{insert_key}
use Rattle.std.specs.Cmp.Lexicographic.{slice_cmp}
use Rattle.std.specs.Borrow.{Bor}
use Rattle.std.specs.Ordering.{nat_cmp}
use Rattle.std.specs.declared.cmp.Ordering.{Ordering}

-- The order of words by their bytes.
abbrev pub word_cmp : List ℕ → List ℕ → Ordering
word_cmp a b = slice_cmp nat_cmp a b

-- Words in order with further words, each put where it belongs unless it is there.
abbrev pub with_words : List (List ℕ) → List (List ℕ) → List (List ℕ)
with_words set [] = set
with_words set (word ∷ words) = with_words (insert_key word_cmp set word) words

-- The words of a list in order, each once.
abbrev pub word_set : List (List ℕ) → List (List ℕ)
word_set words = with_words [] words

-- The bytes of a word that is lent.
abbrev pub lent : Bor (List ℕ) → List ℕ
lent word = word.now
