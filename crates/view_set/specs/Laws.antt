-- Laws of the rows, the threads and the words of an archive's messages.
use Rattle.std.specs.Prelude.{◌≡◌, ℕ, List}
use Rattle.std.specs.List.{filter}
use Rattle.arch_base.specs.declared.ids.Form.{Form}
use Rattle.arch_model.specs.Archives.{Archive, Entry, live}
use Rattle.arch_model.specs.Listings.{rows_of, listing}
use Rattle.arch_model.specs.Searching.{search, matches_at}
use Rattle.arch_model.specs.Threading.{thread_in as threaded}
use Rattle.arch_model.specs.Validity.{IsArchive}
use Rattle.query_lang.specs.declared.query.Query.{Query}
use Rattle.view_set.specs.Threads.{thread_in}
use Rattle.view_set.specs.Viewed.{views_of, searched}

-- The threads of the rows of messages are the threads of the messages.
abbrev pub ThreadsAreTheArchives : Type 0
ThreadsAreTheArchives = (form : Form) (es : List Entry) (n : ℕ)
    → thread_in (rows_of form es) n ≡ threaded es n

-- A search among the rows and words of an archive's live messages is the search among the messages.
abbrev pub SearchIsTheArchives : Type 0
SearchIsTheArchives = (form : Form) (query : Query) (a : Archive) → IsArchive a
    → searched query (views_of form (live a.entries)) ≡ search query (live a.entries)

-- A search among an archive's live messages is the listing without the messages that don't match.
abbrev pub SearchFiltersTheListing : Type 0
SearchFiltersTheListing = (query : Query) (a : Archive) → IsArchive a → search query (live a.entries)
    ≡ filter (matches_at query (live a.entries)) (listing (live a.entries))
