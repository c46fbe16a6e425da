-- The search among rows and words is the search among the messages.
use Rattle.std.specs.Prelude.{◌≡◌, ◌+◌, ◌<◌, ◌≤◌, ℕ, Bool, true, false, List, [], ◌∷◌, ◌++◌, map, Option, Some, refl, if◌then◌else◌}
use Rattle.std.specs.List.{AllByRecursion, filter}
use Rattle.std.specs.Ordering.{nat_cmp}
use Rattle.std.specs.BTreeMap.{is_at}
use Rattle.std.proofs.Common.{◌∙◌, ap, cond, arith}
use Rattle.arch_base.specs.declared.ids.Form.{Form}
use Rattle.mail_forms.specs.declared.row.Row.{Row}
use Rattle.query_lang.specs.Matching.{matches}
use Rattle.query_lang.specs.declared.query.Query.{Query}
use Rattle.arch_model.specs.Archives.{Archive, Entry, live}
use Rattle.arch_model.specs.Listings.{row_at, rows_of}
use Rattle.arch_model.specs.Searching.{is_match, search}
use Rattle.arch_model.specs.Validity.{IsArchive}
use Rattle.overview_index.specs.Listings.{row_in, under, rows_numbered, listing}
use Rattle.overview_index.proofs.Messages.{Ascends, listing-is}
use Rattle.thread_model.proofs.Entries.{true-at, false-at}
use Rattle.word_index.specs.Rows.{WordRow as Worded, found}
use Rattle.view_set.specs.Viewed.{worded_at, worded_of, views_of, searched}
use Rattle.view_set.proofs.Walking.{live-ascends}

-- The numbers of messages.
abbrev numbers_of : List Entry → List ℕ
numbers_of es = map (λ (e : Entry). e.number) es

-- What is found by words are the numbers of the messages that match.
matched_step : (t : Bool) (e : Entry) (word : Worded) (words : List (ℕ × Worded)) (es : List Entry) → map (λ (w : ℕ × Worded). w.0) words ≡ numbers_of es
    → map (λ (w : ℕ × Worded). w.0) (if t then (e.number, word) ∷ words else words) ≡ numbers_of (if t then e ∷ es else es)
matched_step true e word words es is = ap (λ (ns : List ℕ). e.number ∷ ns) is
matched_step false e word words es is = is

found-is : (query : Query) (es : List Entry) → found query (worded_of es) ≡ numbers_of (filter (is_match query) es)
found-is query [] = refl
found-is query (e ∷ es) =
    matched_step (is_match query e) e (worded_at e) (filter (λ (w : ℕ × Worded). matches query w.1.words w.1.day) (worded_of es)) (filter (is_match query) es) (found-is query es)

-- Each message is found by its number.
abbrev IsFound : Form → List (ℕ × Row) → Entry → Type 0
IsFound form rows e = row_in rows e.number ≡ Some (row_at form e)

found_later : (form : Form) (e : Entry) (rows : List (ℕ × Row)) (es : List Entry) (low : ℕ) → e.number < low → Ascends low es → AllByRecursion (IsFound form rows) es → let more : List (ℕ × Row) = (e.number, row_at form e) ∷ rows in AllByRecursion (IsFound form more) es
found_later form e rows [] low less ascends all = tt
found_later form e rows (x ∷ es) low less ascends all =
    let above : low ≤ x.number = ascends.0 in
    let other : is_at (nat_cmp x.number) e.number ≡ false = false-at x.number e.number (λ (same : x.number ≡ e.number). omega (arith, above, less, same)) in
    (ap (λ (t : Bool). cond t (Some (row_at form e)) (row_in rows x.number)) other ∙ all.0, found_later form e rows es (x.number + 1) (omega (arith, above, less)) ascends.1 all.1)

all-found : (form : Form) (low : ℕ) (es : List Entry) → Ascends low es → AllByRecursion (IsFound form (rows_of form es)) es
all-found form low [] ascends = tt
all-found form low (e ∷ es) ascends = (
  ap (λ (t : Bool). cond t (Some (row_at form e)) (row_in (rows_of form es) e.number)) (true-at e.number e.number refl),
  found_later form e (rows_of form es) es (e.number + 1) (omega arith) ascends.1 (all-found form (e.number + 1) es ascends.1),
)

-- So the rows of the numbers of some of them are theirs.
rows_step : (form : Form) (t : Bool) (rows : List (ℕ × Row)) (e : Entry) (es : List Entry) → IsFound form rows e → rows_numbered rows (numbers_of es) ≡ rows_of form es
    → rows_numbered rows (numbers_of (if t then e ∷ es else es)) ≡ rows_of form (if t then e ∷ es else es)
rows_step form true rows e es found ih =
    ap (λ (row : Option Row). under e.number row ++ rows_numbered rows (numbers_of es)) found
    ∙ ap (λ (rs : List (ℕ × Row)). (e.number, row_at form e) ∷ rs) ih
rows_step form false rows e es found ih = ih

rows-matched : (form : Form) (query : Query) (rows : List (ℕ × Row)) (es : List Entry) → AllByRecursion (IsFound form rows) es → rows_numbered rows (numbers_of (filter (is_match query) es)) ≡ rows_of form (filter (is_match query) es)
rows-matched form query rows [] all = refl
rows-matched form query rows (e ∷ es) all =
    rows_step form (is_match query e) rows e (filter (is_match query) es) all.0 (rows-matched form query rows es all.1)

pub searched-is : (form : Form) (query : Query) (es : List Entry) → Ascends 1 es → searched query (views_of form es) ≡ search query es
unfolding search
searched-is form query es ascends =
    ap (λ (ns : List ℕ). listing (rows_numbered (rows_of form es) ns)) (found-is query es)
    ∙ ap listing (rows-matched form query (rows_of form es) es (all-found form 1 es ascends))
    ∙ listing-is form (filter (is_match query) es)

pub search-is : (form : Form) (query : Query) (a : Archive) → IsArchive a → searched query (views_of form (live a.entries)) ≡ search query (live a.entries)
search-is form query a valid = searched-is form query (live a.entries) (live-ascends 1 0 a.entries valid.order)
