-- Private: lists of numbers in which all rows of an answer stand.
use Rattle.std.specs.Prelude.{◌≡◌, ℕ, Bool, true, List}
use Rattle.std.specs.List.{list_all}
use Rattle.query_lang.specs.Matching.{in_ranges}
use Rattle.word_index.specs.declared.asking.Asked.{Asked}
use Rattle.word_index.specs.declared.sources.Source.{Source}
use Rattle.word_index.specs.declared.sources.Source.TheVariants.{All, Days, Word}
use Rattle.word_index.specs.declared.rows.KeptRow.{KeptRow}
use Rattle.word_index.specs.Asked.{has_asked, matches_asked}
use Rattle.word_index.specs.Days.{is_within}

-- The row stands in the list.
abbrev pub passes : Source → KeptRow → Bool
passes All row = true
passes (Days first last) row = is_within first last row
passes (Word asked) row = has_asked row asked.now

-- Each row that has these words, and is of these days, stands in the list.
abbrev pub HasEachMatch : List Asked → List ℕ → Source → Type 0
HasEachMatch asked days source = (row : KeptRow) → matches_asked asked days row ≡ true
    → passes source row ≡ true

-- Each row that has these words stands in the list.
abbrev pub IsWordSource : List Asked → Source → Type 0
IsWordSource asked source = (row : KeptRow) → list_all (has_asked row) asked ≡ true
    → passes source row ≡ true

-- Each row that is of these days stands in the list.
abbrev pub IsDaySource : List ℕ → Source → Type 0
IsDaySource days source = (row : KeptRow) → in_ranges days row.day ≡ true → passes source row ≡ true
