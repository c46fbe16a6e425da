-- Private: the words that a query asks, in rows and in the tables.
use Rattle.std.specs.Prelude.{ℕ, Bool, false, ◌&&◌, ◌||◌, List, Option, Some, None}
use Rattle.std.specs.List.{list_all}
use Rattle.query_lang.specs.declared.matching.Field.{Field}
use Rattle.query_lang.specs.declared.matching.Field.TheVariants.{Any, Subject, From, Body}
use Rattle.query_lang.specs.Matching.{in_ranges}
use Rattle.word_index.specs.declared.asking.Asked.{Asked}
use Rattle.word_index.specs.declared.rows.KeptRow.{KeptRow}
use Rattle.word_index.specs.declared.tables.Tables.{Tables}
use Rattle.word_index.specs.Kept.{has_known}
use Rattle.word_index.specs.Postings.{posted}

-- The row has the word where it is asked.
abbrev pub has_asked : KeptRow → Asked → Bool
has_asked row asked = has_known asked.field asked.word row

-- The row has all words that are asked, and its day lies in each range.
abbrev pub matches_asked : List Asked → List ℕ → KeptRow → Bool
matches_asked asked days row = list_all (has_asked row) asked && in_ranges days row.day

-- The tables list the number under the word.
abbrev pub listed_in : Field → Tables → ℕ → ℕ → Bool
listed_in Any t word n = posted t.subject word n || posted t.from word n || posted t.body word n
listed_in Subject t word n = posted t.subject word n
listed_in From t word n = posted t.from word n
listed_in Body t word n = posted t.body word n

-- They list it under a word that has a number.
abbrev pub listed_known : Field → Tables → Option ℕ → ℕ → Bool
listed_known field t None n = false
listed_known field t (Some word) n = listed_in field t word n

-- The tables list the number under the word where it is asked.
abbrev pub is_listed : Tables → Asked → ℕ → Bool
is_listed t asked n = listed_known asked.field t asked.word n
