-- Private: what a query asks after some of its terms.
use Rattle.std.specs.Prelude.{◌≡◌, ℕ, List, [], ◌∷◌, ◌++◌, Option, Some, None, option_map, Result, Ok, Err}
use Rattle.std.specs.List.{filter_map}
use Rattle.query_lang.specs.Terms.{after, plain_words, prefixed_words}
use Rattle.query_lang.specs.Dates.{range_of}
use Rattle.query_lang.specs.Queries.{days_of}
use Rattle.query_lang.specs.declared.query.Query.{Query}
use Rattle.query_lang.specs.declared.query.QueryRefusal.{QueryRefusal}
use Rattle.query_lang.specs.declared.query.QueryRefusal.TheVariants.{BadRange, NoMemory}

-- What a query and further terms ask, with the days of the terms' ranges.
abbrev pub asked_with : Query → List (List ℕ) → List ℕ → Query
asked_with query terms days =
    record {
      any = query.any ++ plain_words terms;
      subject = query.subject ++ prefixed_words 115 terms;
      from = query.from ++ prefixed_words 102 terms;
      body = query.body ++ prefixed_words 98 terms;
      days = query.days ++ days;
    }

-- The query after further terms; none if one of them is a bad range.
abbrev pub with_terms : Query → List (List ℕ) → Option Query
with_terms query terms =
    option_map (asked_with query terms) (days_of (filter_map (after 100) terms))

-- A term was added to a query, whatever terms follow, or refused as a bad range.
abbrev pub AddsTerm : {T : Type 0} → Query → List ℕ → Result T QueryRefusal → Query → Type 0
AddsTerm old term (Ok x) new =
    (terms : List (List ℕ)) → with_terms old (term ∷ terms) ≡ with_terms new terms
AddsTerm old term (Err BadRange) new = (terms : List (List ℕ)) → with_terms old (term ∷ terms) ≡ None
AddsTerm old term (Err NoMemory) new = Unit {0}

-- The days of a range were appended, or the text spells none.
abbrev pub AsksDays : {T : Type 0} → List ℕ → List ℕ → Result T QueryRefusal → List ℕ → Type 0
AsksDays old text (Ok x) new =
    (range : ℕ × ℕ) × (range_of text ≡ Some range) × (new ≡ old ++ range.0 ∷ range.1 ∷ [])
AsksDays old text (Err BadRange) new = range_of text ≡ None
AsksDays old text (Err NoMemory) new = Unit {0}
