-- What a query asks.
use Rattle.std.specs.Prelude.{◌≡◌, ℕ, List, [], ◌∷◌, Option, Some, None, option_map, Result, Ok, Err}
use Rattle.std.specs.List.{filter_map}
use Rattle.query_lang.specs.Terms.{terms_of, after, plain_words, prefixed_words}
use Rattle.query_lang.specs.Dates.{range_of}
use Rattle.query_lang.specs.declared.query.Query.{Query}
use Rattle.query_lang.specs.declared.query.QueryRefusal.{QueryRefusal}
use Rattle.query_lang.specs.declared.query.QueryRefusal.TheVariants.{BadRange, NoMemory}

-- The query that asks nothing.
abbrev pub nothing : Query
nothing = record { any = []; subject = []; from = []; body = []; days = [] }

-- A range before further days, if both are there.
abbrev pub range_before : Option (ℕ × ℕ) → Option (List ℕ) → Option (List ℕ)
range_before None days = None
range_before (Some range) None = None
range_before (Some range) (Some days) = Some (range.0 ∷ range.1 ∷ days)

-- The first and the last day of each range that these texts spell; none if one of them spells none.
abbrev pub days_of : List (List ℕ) → Option (List ℕ)
days_of [] = Some []
days_of (text ∷ texts) = range_before (range_of text) (days_of texts)

-- What terms ask, with the days of their ranges.
abbrev pub asked_by : List (List ℕ) → List ℕ → Query
asked_by terms days =
    record {
      any = plain_words terms;
      subject = prefixed_words 115 terms;
      from = prefixed_words 102 terms;
      body = prefixed_words 98 terms;
      days = days;
    }

-- The query of a text; none if a term that starts with `d:` spells no range of days.
abbrev pub query_of : List ℕ → Option Query
query_of text =
    let terms = terms_of text in
    option_map (asked_by terms) (days_of (filter_map (after 100) terms))

-- What was read is the query; out of memory is free.
abbrev pub GivesQuery : Result Query QueryRefusal → Option Query → Type 0
GivesQuery (Ok query) wanted = wanted ≡ Some query
GivesQuery (Err BadRange) wanted = wanted ≡ None
GivesQuery (Err NoMemory) wanted = Unit {0}
