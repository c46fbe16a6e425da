-- The words of an index, each at its number.
use Rattle.std.specs.Prelude.{◌≡◌, ◌<◌, ◌≤◌, ℕ, List, [], map, length, slice_index_or, Option, Some, None, if◌then◌else◌}
use Rattle.std.specs.List.{AllByRecursion}
use Rattle.std.specs.Str.{bytes_eq}
use Rattle.std.specs.Cmp.Lexicographic.{slice_cmp}
use Rattle.std.specs.BTreeMap.{BTreeMap, get_by}
use Rattle.std.specs.Global.{Vec}
use Rattle.std.specs.Ordering.{nat_cmp}
use Rattle.std.specs.declared.cmp.Ordering.{Ordering}
use Rattle.word_index.specs.Marks.{mark_of}

-- The word with a number.
abbrev pub word_at : List (List ℕ) → ℕ → List ℕ
word_at words i = slice_index_or words i []

-- The words with some numbers.
abbrev pub spelled : List (List ℕ) → List ℕ → List (List ℕ)
spelled words numbers = map (word_at words) numbers

-- The number of a word, which is one of the words only if it has one.
pub record IsNumberOf (words : List (List ℕ)) (word : List ℕ) (number : Option ℕ) : Type 0 where
  pub found : (i : ℕ) → i < length words → word_at words i ≡ word → number ≡ Some i
  pub held : (i : ℕ) → number ≡ Some i → (i < length words) × (word_at words i ≡ word)

-- What a key has, which need not be in its table.
abbrev pub given : Option (Option ℕ) → Option ℕ
given None = None
given (Some number) = number

-- The number of the first word with a mark, by a table.
abbrev pub first_with : BTreeMap ℕ (Option ℕ) → ℕ → Option ℕ
first_with first mark = given (get_by (nat_cmp mark) first)

-- How bytes compare with a key of a table.
abbrev pub looks : List ℕ → Vec ℕ → Ordering
looks word key = slice_cmp nat_cmp word key.items

-- The number of a word whose mark an earlier word has, by a table.
abbrev pub other_at : BTreeMap (Vec ℕ) (Option ℕ) → List ℕ → Option ℕ
other_at others word = given (get_by (looks word) others)

-- The number of a word, where the first word with its mark has a number.
abbrev pub number_by : List (List ℕ) → BTreeMap (Vec ℕ) (Option ℕ) → List ℕ → Option ℕ → Option ℕ
number_by words others word None = None
number_by words others word (Some i) =
    if bytes_eq (word_at words i) word then Some i else other_at others word

-- The number of a word by the tables: that of the first word with its mark, if that is the word.
abbrev pub number_in : List (List ℕ) → BTreeMap ℕ (Option ℕ) → BTreeMap (Vec ℕ) (Option ℕ) → List ℕ
    → Option ℕ
number_in words first others word = number_by words others word (first_with first (mark_of word))

-- The tables give each word its number, and their numbers are those of words with the mark or the bytes.
pub record IsNumbering (words : List (List ℕ)) (first : BTreeMap ℕ (Option ℕ))
    (other : BTreeMap (Vec ℕ) (Option ℕ))
    : Type 0 where
  pub found : (i : ℕ) → i < length words → number_in words first other (word_at words i) ≡ Some i
  pub firsts : (mark i : ℕ) → first_with first mark ≡ Some i
      → (i < length words) × (mark_of (word_at words i) ≡ mark)
  pub others : (word : List ℕ) (i : ℕ) → other_at other word ≡ Some i
      → (i < length words) × (word_at words i ≡ word)

-- Words may have been added; each number keeps its word.
pub record KeepsWords (old new : List (List ℕ)) : Type 0 where
  pub longer : length old ≤ length new
  pub same : (i : ℕ) → i < length old → word_at new i ≡ word_at old i

-- Each number has a word.
abbrev pub AreHeld : List (List ℕ) → List ℕ → Type 0
AreHeld words numbers = AllByRecursion (λ (i : ℕ). i < length words) numbers

-- The numbers are those of these words.
pub record AreNumbersOf (words : List (List ℕ)) (texts : List (List ℕ)) (numbers : List ℕ) : Type 0 where
  pub held : AreHeld words numbers
  pub are : spelled words numbers ≡ texts

-- The number is that of this word.
pub record IsNumberFor (words : List (List ℕ)) (text : List ℕ) (number : ℕ) : Type 0 where
  pub held : number < length words
  pub is : word_at words number ≡ text
