-- The rows of an index, by number.
use Rattle.std.specs.Prelude.{ℕ, Bool, false, List, map, Option}
use Rattle.std.specs.Option.{option_map_or}
use Rattle.std.specs.List.{filter}
use Rattle.std.specs.Map.{lookup}
use Rattle.std.specs.Ordering.{nat_cmp}
use Rattle.std.specs.BTreeMap.{is_at}
use Rattle.text_words.specs.declared.word_lists.WordLists.{WordLists}
use Rattle.query_lang.specs.declared.query.Query.{Query}
use Rattle.query_lang.specs.Matching.{matches}

-- A row: its words, by field, and its day.
pub record WordRow : Type 0 where
  pub words : WordLists
  pub day : ℕ

-- The row with a number.
abbrev pub row_at : List (ℕ × WordRow) → ℕ → Option WordRow
row_at rows n = lookup (is_at (nat_cmp n)) rows

-- The number has a row, which passes a test.
abbrev pub passes_at : (WordRow → Bool) → List (ℕ × WordRow) → ℕ → Bool
passes_at test rows n = option_map_or test (row_at rows n) false

-- The number has a row, which matches a query.
abbrev pub matching : Query → List (ℕ × WordRow) → ℕ → Bool
matching query rows n = passes_at (λ (row : WordRow). matches query row.words row.day) rows n

-- The numbers of the rows that match a query, in the order of the rows.
abbrev pub found : Query → List (ℕ × WordRow) → List ℕ
found query rows =
    map (λ (row : ℕ × WordRow). row.0)
    (filter (λ (row : ℕ × WordRow). matches query row.1.words row.1.day) rows)
