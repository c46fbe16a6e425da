-- A page of a search, by the newest rows that match.
use Rattle.std.specs.Prelude.{◌≡◌, ◌+◌, ◌≤◌, ◌==◌, ℕ, Bool, true, false, List, [], ◌∷◌, ◌++◌, length, take, drop, Some, refl, if◌then◌else◌}
use Rattle.std.specs.List.{filter}
use Rattle.std.specs.Option.{option_map_or}
use Rattle.std.proofs.Common.{◌∙◌, sym, ap, cond, arith, length-drop}
use Rattle.std.proofs.Math.Seq.{take-add}
use Rattle.std.proofs.lemmas.Bool.{eqb-true, eqb-false}
use Rattle.std.proofs.lemmas.List.{take-append-drop, take-append-le, drop-append-le}
use Rattle.std.proofs.lemmas.List.Elements.{filter-append, filter_agree}
use Rattle.query_lang.specs.declared.query.Query.{Query}
use Rattle.query_lang.specs.Matching.{matches}
use Rattle.arch_base.specs.declared.ids.Form.{Form}
use Rattle.arch_model.specs.Archives.{Entry, live}
use Rattle.arch_model.specs.Listings.{listing as listed}
use Rattle.arch_model.specs.Searching.{is_match, matches_at, search}
use Rattle.arch_model.specs.Validity.{Rise}
use Rattle.overview_index.specs.Listings.{listing}
use Rattle.overview_index.proofs.Messages.{listing-is}
use Rattle.thread_model.proofs.Entries.{true-at, false-at}
use Rattle.word_index.specs.Rows.{WordRow as Worded, row_at as row_in_words, matching}
use Rattle.view_set.specs.Viewed.{Viewed, worded_at, worded_of, views_of, searched, IsFrontFound}
use Rattle.view_set.proofs.Filtering.{filtered}
use Rattle.view_set.proofs.Searching.{searched-is}
use Rattle.view_set.proofs.Walking.{live-ascends}

-- Some further rows of the listing were looked at.
pub front-more : (test : ℕ → Bool) (all found rows more : List ℕ) (at count : ℕ) → found ≡ filter test (take at all) → rows ≡ take count (drop at all) → more ≡ found ++ filter test rows
    → more ≡ filter test (take (at + count) all)
front-more test all found rows more at count so_far next is =
    is ∙ ap (λ (ns : List ℕ). ns ++ filter test rows) so_far ∙ ap (λ (ns : List ℕ). filter test (take at all) ++ filter test ns) next
    ∙ sym (filter-append test (take at all) (take count (drop at all))) ∙ ap (filter test) (sym (take-add at count all))

-- What the first rows of a list have of those that match are the first that match.
front-page : (test : ℕ → Bool) (all numbers page : List ℕ) (k skip count : ℕ) → numbers ≡ filter test (take k all) → skip + count ≤ length numbers → page ≡ take count (drop skip numbers) → page ≡ take count (drop skip (filter test all))
front-page test all numbers page k skip count are long is =
    let rest = filter test (drop k all) in
    let whole : numbers ++ rest ≡ filter test all = ap (λ (ns : List ℕ). ns ++ rest) are ∙ sym (filter-append test (take k all) (drop k all)) ∙ ap (filter test) (take-append-drop k all) in
    let left = length-drop skip numbers in
    is
    ∙ sym (take-append-le count (drop skip numbers) rest (omega (arith, long, left)))
    ∙ ap (take count) (sym (drop-append-le skip numbers rest (omega (arith, long))))
    ∙ ap (λ (ns : List ℕ). take count (drop skip ns)) whole

-- A number's row matches where its message does.
matching-at : (query : Query) (es : List Entry) (n : ℕ) → matching query (worded_of es) n ≡ matches_at query es n
matching-at query [] n = refl
matching-at query (e ∷ es) n = step (e.number == n) refl (matching-at query es n)
  where
    chosen : Bool → Bool
    chosen t = option_map_or (λ (row : Worded). matches query row.words row.day) (cond t (Some (worded_at e)) (row_in_words (worded_of es) n)) false

    step : (t : Bool) → (e.number == n) ≡ t → matching query (worded_of es) n ≡ matches_at query es n → matching query (worded_of (e ∷ es)) n ≡ (if t then is_match query e else matches_at query es n)
    step true is ih = ap chosen (true-at n e.number (sym (eqb-true e.number n is)))
    step false is ih = ap chosen (false-at n e.number (λ same. eqb-false e.number n is (sym same))) ∙ ih

-- So a page of those is one of the search, where the rows are those of live messages.
pub page-of-front : (query : Query) (v : Viewed) (numbers page : List ℕ) (skip count : ℕ) → IsFrontFound query v numbers → skip + count ≤ length numbers → page ≡ take count (drop skip numbers)
    → (form : Form) (entries : List Entry) → Rise 1 0 entries → v ≡ views_of form (live entries) → page ≡ take count (drop skip (search query (live entries)))
page-of-front query v numbers page skip count front long is form entries ordered same =
    let es = live entries in
    let test = matching query (worded_of es) in
    let all : listing v.rows ≡ listed es = ap (λ (w : Viewed). listing w.rows) same ∙ listing-is form es in
    let are : numbers ≡ filter test (take front.count (listed es)) =
    front.are ∙ ap (λ (w : Viewed). filter (matching query w.words) (take front.count (listing v.rows))) same ∙ ap (λ (ns : List ℕ). filter test (take front.count ns)) all in
    front-page test (listed es) numbers page front.count skip count are long is
    ∙ ap (λ (ns : List ℕ). take count (drop skip ns)) (filter_agree test (matches_at query es) (matching-at query es) (listed es) ∙ sym (filtered form query es (live-ascends 1 0 entries ordered)))

-- All that is found is what the search gives.
pub searched-ordered : (form : Form) (query : Query) (entries : List Entry) → Rise 1 0 entries → searched query (views_of form (live entries)) ≡ search query (live entries)
searched-ordered form query entries ordered =
    searched-is form query (live entries) (live-ascends 1 0 entries ordered)
