-- The numbers of the rows that have a word in one field.
use Rattle.std.specs.Prelude.{◌≡◌, ◌<◌, ◌≤◌, ◌-◌, ℕ, Bool, false, not, ◌&&◌, ◌||◌, List, [], length, slice_index_or, Result, MatchResult}
use Rattle.std.specs.List.{list_any}
use Rattle.std.specs.List.Sorted.{IsStrictlySortedBy}
use Rattle.std.specs.Ordering.{nat_cmp}
use Rattle.std.specs.BTreeMap.{is_at}
use Rattle.std.specs.BTreeSet.{BTreeSet, contains}
use Rattle.word_index.specs.Kept.{has_number}

-- Sets of numbers of rows, each at the number of a word.
abbrev pub Postings : Type 0
Postings = List (BTreeSet ℕ)

-- A set without numbers.
abbrev pub no_numbers : BTreeSet ℕ
no_numbers = record { keys = [] }

-- The numbers of a word, of which one without a set has none.
abbrev pub numbers_of : Postings → ℕ → BTreeSet ℕ
numbers_of postings word = slice_index_or postings word no_numbers

-- The number is one of a word's.
abbrev pub posted : Postings → ℕ → ℕ → Bool
posted postings word n = contains nat_cmp (numbers_of postings word) n

-- The list rises, and has just the numbers that pass a test.
pub record IsListOf (list : List ℕ) (test : ℕ → Bool) : Type 0 where
  pub rising : IsStrictlySortedBy nat_cmp list
  pub has : (n : ℕ) → list_any (is_at (nat_cmp n)) list ≡ test n

-- Where a number stands among rising ones, or the gap between lesser and greater ones where it belongs.
abbrev pub IsPlaceOf : List ℕ → ℕ → Result ℕ ℕ → Type 0
IsPlaceOf numbers n place = MatchResult place
    (λ (i : ℕ). (i < length numbers) × (slice_index_or numbers i 0 ≡ n))
    (λ (i : ℕ). (i ≤ length numbers) × ((k : ℕ) → k < i → slice_index_or numbers k 0 < n)
    × ((k : ℕ) → i ≤ k → k < length numbers → n < slice_index_or numbers k 0))

-- One number was added to those of one word.
abbrev pub WordGains : Postings → Postings → ℕ → ℕ → Type 0
WordGains old new word n = (w : ℕ) (m : ℕ)
    → posted new w m ≡ (posted old w m || (is_at (nat_cmp word) w && is_at (nat_cmp n) m))

-- One number was removed from those of one word.
abbrev pub WordLoses : Postings → Postings → ℕ → ℕ → Type 0
WordLoses old new word n = (w : ℕ) (m : ℕ)
    → posted new w m ≡ (posted old w m && not (is_at (nat_cmp word) w && is_at (nat_cmp n) m))

-- No word's numbers changed.
abbrev pub SamePosted : Postings → Postings → Type 0
SamePosted old new = (w : ℕ) (m : ℕ) → posted new w m ≡ posted old w m

-- One number was added to those of some words.
abbrev pub PutsAll : Postings → Postings → List ℕ → ℕ → Type 0
PutsAll old new words n = (w : ℕ) (m : ℕ)
    → posted new w m ≡ (posted old w m || (has_number words w && is_at (nat_cmp n) m))

-- One number was removed from those of some words.
abbrev pub LosesAll : Postings → Postings → List ℕ → ℕ → Type 0
LosesAll old new words n = (w : ℕ) (m : ℕ)
    → posted new w m ≡ (posted old w m && not (has_number words w && is_at (nat_cmp n) m))

-- At most this number was added or removed, and at most at these words.
pub record MayPut (old new : Postings) (words : List ℕ) (n : ℕ) : Type 0 where
  pub others : (w : ℕ) (m : ℕ) → has_number words w ≡ false → posted new w m ≡ posted old w m
  pub rest : (w : ℕ) (m : ℕ) → is_at (nat_cmp n) m ≡ false → posted new w m ≡ posted old w m

-- The last number, if there is one, is less.
abbrev pub EndsBelow : List ℕ → ℕ → Type 0
EndsBelow numbers n = 0 < length numbers → slice_index_or numbers (length numbers - 1) 0 < n
