-- Which messages match a query.
use Rattle.std.specs.Prelude.{ℕ, Bool, true, ◌&&◌, ◌||◌, nat_le, List, [], ◌∷◌}
use Rattle.std.specs.List.{list_any, list_all}
use Rattle.std.specs.Str.{bytes_eq}
use Rattle.text_words.specs.declared.word_lists.WordLists.{WordLists}
use Rattle.query_lang.specs.declared.query.Query.{Query}
use Rattle.query_lang.specs.declared.matching.Field.{Field}
use Rattle.query_lang.specs.declared.matching.Field.TheVariants.{Any, Subject, From, Body}

-- The word is one of the list.
abbrev pub has_word : List (List ℕ) → List ℕ → Bool
has_word words word = list_any (λ held. bytes_eq held word) words

-- The word is there.
abbrev pub has_in : Field → WordLists → List ℕ → Bool
has_in Any words word =
    has_word words.subject word || has_word words.from word || has_word words.body word
has_in Subject words word = has_word words.subject word
has_in From words word = has_word words.from word
has_in Body words word = has_word words.body word

-- The day lies in a range, of which the first and the last day are part.
abbrev pub is_between : ℕ → ℕ → ℕ → Bool
is_between day first last = nat_le first day && nat_le day last

-- The day lies in each range. Each two numbers are the first and the last day of one.
abbrev pub in_ranges : List ℕ → ℕ → Bool
in_ranges [] day = true
in_ranges (first ∷ []) day = true
in_ranges (first ∷ last ∷ days) day = is_between day first last && in_ranges days day

-- A message with these words, of this day, has each word that the query asks, and its day lies in
-- each range.
abbrev pub matches : Query → WordLists → ℕ → Bool
matches query words day =
    list_all (has_in Any words) query.any && list_all (has_in Subject words) query.subject
    && list_all (has_in From words) query.from
    && list_all (has_in Body words) query.body
    && in_ranges query.days day
