-- The search among live messages.
use Rattle.std.specs.Prelude.{◌==◌, ℕ, Bool, false, List, [], ◌∷◌, if◌then◌else◌}
use Rattle.std.specs.List.{filter}
use Rattle.mime_parts.specs.Words.{mail_words}
use Rattle.query_lang.specs.declared.query.Query.{Query}
use Rattle.query_lang.specs.Dates.{utc_day}
use Rattle.query_lang.specs.Matching.{matches}
use Rattle.arch_model.specs.Archives.{Entry}
use Rattle.arch_model.specs.Listings.{date_at, listing}

-- A message matches a query: its text has each word that is asked, where it is asked, and the day of
-- its date in UTC lies in each range.
abbrev pub is_match : Query → Entry → Bool
is_match query e = matches query (mail_words e.text) (utc_day (date_at e))

-- The numbers of the messages that match, newest first: the listing of those messages.
unfoldable pub search : Query → List Entry → List ℕ
search query entries = listing (filter (is_match query) entries)

-- The first of some messages with a number matches a query.
abbrev pub matches_at : Query → List Entry → ℕ → Bool
matches_at query [] n = false
matches_at query (e ∷ es) n = if e.number == n then is_match query e else matches_at query es n
