-- Sets of numbers (RFC 3501, section 9, sequence-set).
use Rattle.std.specs.Prelude.{◌≡◌, ℕ, min, max, Bool, ◌&&◌, ◌==◌, nat_le, List, [], ◌∷◌, Option, Some, None, Result, Ok, Err, if◌then◌else◌}
use Rattle.std.specs.List.{list_any}
use Rattle.imap_words.specs.Kinds.{is_set_byte}
use Rattle.imap_words.specs.Numbers.{nz_number_of}
use Rattle.imap_words.specs.Reading.{◌>>=◌, Refuses, byte_at, run_at}
use Rattle.imap_words.specs.Words.{words_at}
use Rattle.imap_words.specs.declared.stop.Stop.{Stop}
use Rattle.imap_syntax.specs.declared.sets.SetEnd.{SetEnd}
use Rattle.imap_syntax.specs.declared.sets.SetEnd.TheVariants as end
use Rattle.imap_syntax.specs.declared.sets.SetRange.{SetRange}

-- The number that an end of a range means: `*` is the greatest number that there is.
abbrev pub end_number : ℕ → SetEnd → ℕ
end_number greatest (end.Number n) = n
end_number greatest end.Greatest = greatest

-- The number is in the range, whichever of its ends is the greater.
abbrev pub in_range : ℕ → ℕ → SetRange → Bool
in_range n greatest range =
    nat_le (min (end_number greatest range.first) (end_number greatest range.last)) n
    && nat_le n (max (end_number greatest range.first) (end_number greatest range.last))

-- The number is in one of the ranges (RFC 3501, section 9, seq-range and seq-number).
abbrev pub in_set : ℕ → ℕ → List SetRange → Bool
in_set n greatest ranges = list_any (in_range n greatest) ranges

-- A number as an end, if there is one.
abbrev pub end_by_number : Option ℕ → Option SetEnd
end_by_number None = None
end_by_number (Some n) = Some (end.Number n)

-- The end that a word spells: `*`, or a number that doesn't start with a zero (seq-number).
abbrev pub end_of : List ℕ → Option SetEnd
end_of [] = None
end_of (c ∷ []) = if c == 42 then Some end.Greatest else end_by_number (nz_number_of (c ∷ []))
end_of (c ∷ d ∷ ds) = end_by_number (nz_number_of (c ∷ d ∷ ds))

-- One end, or two.
abbrev pub range_of_words : List (List ℕ) → Option SetRange
range_of_words [] = None
range_of_words (word ∷ []) = do
  only ← end_of word
  Some (record { first = only; last = only })
range_of_words (word ∷ other ∷ []) = do
  first ← end_of word
  last ← end_of other
  Some (record { first = first; last = last })
range_of_words (word ∷ other ∷ third ∷ words) = None

-- The range that a word spells: one end, or two with a colon between them (seq-range).
unfoldable pub range_of : List ℕ → Option SetRange
range_of word = range_of_words (words_at 58 word)

-- The ranges that words spell, if each spells one.
abbrev pub ranges_of : List (List ℕ) → Option (List SetRange)
ranges_of [] = Some []
ranges_of (word ∷ words) = do
  range ← range_of word
  ranges ← ranges_of words
  Some (range ∷ ranges)

-- The ranges that a word spells, with commas between them.
unfoldable pub set_of : List ℕ → Option (List SetRange)
set_of word = ranges_of (words_at 44 word)

-- The set at the front (sequence-set).
unfoldable pub set_at : List ℕ → Option (List SetRange × List ℕ)
set_at octets = do
  word ← run_at is_set_byte octets
  ranges ← set_of word.0
  Some (ranges, word.1)

-- The same after a space.
unfoldable pub set_argument_at : List ℕ → Option (List SetRange × List ℕ)
set_argument_at octets = do
  rest ← byte_at 32 octets
  set_at rest

-- What reading a word as a set gives, unless memory ran out.
abbrev pub SpellsSet : Result (List SetRange) Stop → Option (List SetRange) → Type 0
SpellsSet (Ok found) ranges = ranges ≡ Some found
SpellsSet (Err e) ranges = Refuses e ranges
