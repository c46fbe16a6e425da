-- A search is the listing without the messages that don't match.
use Rattle.std.specs.Prelude.{◌≡◌, ◌==◌, ◌+◌, ◌<◌, ◌≤◌, ℕ, Bool, true, false, List, [], ◌∷◌, ◌++◌, map, reverse, refl, if◌then◌else◌}
use Rattle.std.specs.declared.cmp.Ordering.{Ordering}
use Rattle.std.specs.declared.cmp.Ordering.TheVariants.{Less, Equal, Greater}
use Rattle.std.specs.Ordering.{match_ordering}
use Rattle.std.specs.List.{AllByRecursion, filter}
use Rattle.std.specs.List.Sorted.{IsStrictlySortedBy}
use Rattle.std.specs.BTreeSet.{insert_key}
use Rattle.std.proofs.Common.{◌∙◌, sym, ap, arith, append-nil}
use Rattle.std.proofs.lemmas.Bool.{eqb-true, eq-eqb}
use Rattle.std.proofs.lemmas.List.{reverse-append}
use Rattle.std.proofs.lemmas.List.Elements.{filter-append}
use Rattle.std.proofs.lemmas.Map.Keys.{sorted_head, sorted_tail}
use Rattle.query_lang.specs.declared.query.Query.{Query}
use Rattle.arch_base.specs.declared.ids.Form.{Form}
use Rattle.arch_model.specs.Archives.{Entry, live}
use Rattle.arch_model.specs.Listings.{row_at, rows_of, listing as listed}
use Rattle.arch_model.specs.Searching.{is_match, matches_at, search}
use Rattle.overview_index.specs.Listings.{spot_of, spot_cmp, spots, number_at, listing}
use Rattle.overview_index.specs.declared.spot.Spot.{Spot}
use Rattle.overview_index.proofs.Messages.{Ascends, listing-is, row-number}
use Rattle.overview_index.proofs.Orders.{spots_total, exact_spots}
use Rattle.overview_index.proofs.SpotLaws.{are-spots}
use Rattle.view_set.specs.Laws.{SearchFiltersTheListing}
use Rattle.view_set.proofs.Walking.{live-ascends}

-- What holds of each element holds of those that pass a test.
all-filter : {X : Type 0} (P : X → Type 0) (test : X → Bool) (xs : List X) → AllByRecursion P xs → AllByRecursion P (filter test xs)
all-filter P test [] all = tt
all-filter P test (x ∷ xs) all = step (test x) (all-filter P test xs all.1) where
  step : (t : Bool) → AllByRecursion P (filter test xs) → AllByRecursion P (if t then x ∷ filter test xs else filter test xs)
  step true rest = (all.0, rest)
  step false rest = rest

-- A spot before all others comes first.
insert-first : (k : Spot) (xs : List Spot) → AllByRecursion (λ (y : Spot). spot_cmp k y ≡ Less) xs → insert_key spot_cmp xs k ≡ k ∷ xs
insert-first k [] before = refl
insert-first k (x ∷ xs) before = ap (λ (r : Ordering). match_ordering r (k ∷ x ∷ xs) (x ∷ xs) (x ∷ insert_key spot_cmp xs k)) before.0

before-all : (k x : Spot) (xs : List Spot) → spot_cmp k x ≡ Less → AllByRecursion (λ (y : Spot). spot_cmp x y ≡ Less) xs → AllByRecursion (λ (y : Spot). spot_cmp k y ≡ Less) xs
before-all k x [] less after = tt
before-all k x (y ∷ ys) less after = (spots_total.trans k x y less after.0, before-all k x ys less after.1)

-- Of one spot more, those that pass a test.
module _ (test : Spot → Bool) where
  abbrev kept : List Spot → Spot → List Spot
  kept xs k = if test k then insert_key spot_cmp (filter test xs) k else filter test xs

  less-step : (t : Bool) (k : Spot) (ys : List Spot) → AllByRecursion (λ (y : Spot). spot_cmp k y ≡ Less) ys → (if t then k ∷ ys else ys) ≡ (if t then insert_key spot_cmp ys k else ys)
  less-step true k ys before = sym (insert-first k ys before)
  less-step false k ys before = refl

  equal-step : (t : Bool) (k x : Spot) (ys : List Spot) → spot_cmp k x ≡ Equal → (if t then x ∷ ys else ys) ≡ (if t then insert_key spot_cmp (if t then x ∷ ys else ys) k else (if t then x ∷ ys else ys))
  equal-step true k x ys same = sym (ap (λ (r : Ordering). match_ordering r (k ∷ x ∷ ys) (x ∷ ys) (x ∷ insert_key spot_cmp ys k)) same)
  equal-step false k x ys same = refl

  greater-step : (t u : Bool) (k x : Spot) (ys : List Spot) → spot_cmp k x ≡ Greater → (if u then x ∷ (if t then insert_key spot_cmp ys k else ys) else (if t then insert_key spot_cmp ys k else ys)) ≡ (if t then insert_key spot_cmp (if u then x ∷ ys else ys) k else (if u then x ∷ ys else ys))
  greater-step true true k x ys more = sym (ap (λ (r : Ordering). match_ordering r (k ∷ x ∷ ys) (x ∷ ys) (x ∷ insert_key spot_cmp ys k)) more)
  greater-step true false k x ys more = refl
  greater-step false true k x ys more = refl
  greater-step false false k x ys more = refl

  filter-insert : (xs : List Spot) (k : Spot) → IsStrictlySortedBy spot_cmp xs → filter test (insert_key spot_cmp xs k) ≡ kept xs k
  filter-insert [] k rise = refl
  filter-insert (x ∷ xs) k rise = step (spot_cmp k x) refl (filter-insert xs k (sorted_tail spot_cmp x xs rise))
    where
      after : AllByRecursion (λ (y : Spot). spot_cmp x y ≡ Less) xs
      after = sorted_head spot_cmp x xs rise

      step : (r : Ordering) → spot_cmp k x ≡ r → filter test (insert_key spot_cmp xs k) ≡ kept xs k → filter test (match_ordering r (k ∷ x ∷ xs) (x ∷ xs) (x ∷ insert_key spot_cmp xs k)) ≡ kept (x ∷ xs) k
      step Less f ih = less-step (test k) k (filter test (x ∷ xs)) (all-filter (λ (y : Spot). spot_cmp k y ≡ Less) test (x ∷ xs) (f, before-all k x xs f after))
      step Equal f ih =
          equal-step (test x) k x (filter test xs) f
          ∙ ap (λ (t : Bool). if t then insert_key spot_cmp (filter test (x ∷ xs)) k else filter test (x ∷ xs)) (ap test (sym (exact_spots k x f)))
      step Greater f ih =
          ap (λ (ys : List Spot). if test x then x ∷ ys else ys) ih
          ∙ greater-step (test k) (test x) k x (filter test xs) f

-- The spots of the messages that match are those of all that pass the test for their numbers.
module _ (form : Form) (query : Query) (matched : ℕ → Bool) where
  abbrev at_spot : Spot → Bool
  at_spot spot = matched spot.number

  spots-matched : (es : List Entry) → AllByRecursion (λ (e : Entry). matched e.number ≡ is_match query e) es → spots (rows_of form (filter (is_match query) es)) ≡ filter at_spot (spots (rows_of form es))
  spots-matched [] all = refl
  spots-matched (e ∷ es) all =
      step (is_match query e) (ap matched (row-number form e.number e.text e.moment) ∙ all.0) (spots-matched es all.1)
      ∙ sym (filter-insert at_spot (spots (rows_of form es)) (spot_of (row_at form e)) (are-spots (rows_of form es)).rise)
    where
      step : (t : Bool) → matched (row_at form e).number ≡ t → spots (rows_of form (filter (is_match query) es)) ≡ filter at_spot (spots (rows_of form es))
          → spots (rows_of form (if t then e ∷ filter (is_match query) es else filter (is_match query) es))
          ≡ (if matched (row_at form e).number then insert_key spot_cmp (filter at_spot (spots (rows_of form es))) (spot_of (row_at form e)) else filter at_spot (spots (rows_of form es)))
      step true is ih =
          ap (λ (ss : List Spot). insert_key spot_cmp ss (spot_of (row_at form e))) ih
          ∙ ap (λ (t : Bool). if t then insert_key spot_cmp (filter at_spot (spots (rows_of form es))) (spot_of (row_at form e)) else filter at_spot (spots (rows_of form es))) (sym is)
      step false is ih =
          ih ∙ ap (λ (t : Bool). if t then insert_key spot_cmp (filter at_spot (spots (rows_of form es))) (spot_of (row_at form e)) else filter at_spot (spots (rows_of form es))) (sym is)

-- A test for numbers goes on through their reading and their reversal.
filter-numbers : (test : ℕ → Bool) (xs : List Spot) → filter test (map number_at xs) ≡ map number_at (filter (λ (s : Spot). test s.number) xs)
filter-numbers test [] = refl
filter-numbers test (x ∷ xs) = step (test x.number) (filter-numbers test xs) where
  step : (t : Bool) → filter test (map number_at xs) ≡ map number_at (filter (λ (s : Spot). test s.number) xs)
      → (if t then x.number ∷ filter test (map number_at xs) else filter test (map number_at xs)) ≡ map number_at (if t then x ∷ filter (λ (s : Spot). test s.number) xs else filter (λ (s : Spot). test s.number) xs)
  step true ih = ap (λ (ns : List ℕ). x.number ∷ ns) ih
  step false ih = ih

filter-turned : (test : Spot → Bool) (xs : List Spot) → filter test (reverse xs) ≡ reverse (filter test xs)
filter-turned test [] = refl
filter-turned test (x ∷ xs) =
    ap (filter test) (reverse-append (x ∷ []) xs)
    ∙ filter-append test (reverse xs) (x ∷ [])
    ∙ ap (λ (ys : List Spot). ys ++ filter test (x ∷ [])) (filter-turned test xs)
    ∙ step (test x)
  where
    step : (t : Bool) → reverse (filter test xs) ++ (if t then x ∷ [] else []) ≡ reverse (if t then x ∷ filter test xs else filter test xs)
    step true = sym (reverse-append (x ∷ []) (filter test xs))
    step false = append-nil (reverse (filter test xs))

-- Each message matches just where its number does.
matches_later : (query : Query) (e : Entry) (es all : List Entry) (low : ℕ) → e.number < low → Ascends low es → AllByRecursion (λ (x : Entry). matches_at query all x.number ≡ is_match query x) es
    → AllByRecursion (λ (x : Entry). (if e.number == x.number then is_match query e else matches_at query all x.number) ≡ is_match query x) es
matches_later query e [] all low less ascends own = tt
matches_later query e (x ∷ es) all low less ascends own =
    let above : low ≤ x.number = ascends.0 in
    (ap (λ (t : Bool). if t then is_match query e else matches_at query all x.number) (apart (e.number == x.number) refl) ∙ own.0, matches_later query e es all (x.number + 1) (omega (arith, above, less)) ascends.1 own.1)
  where
    apart : (t : Bool) → (e.number == x.number) ≡ t → t ≡ false
    apart true same = absurd (let one : e.number ≡ x.number = eqb-true e.number x.number same in let above : low ≤ x.number = ascends.0 in omega (arith, one, above, less))
    apart false other = refl

matches-own : (query : Query) (low : ℕ) (es : List Entry) → Ascends low es → AllByRecursion (λ (x : Entry). matches_at query es x.number ≡ is_match query x) es
matches-own query low [] ascends = tt
matches-own query low (e ∷ es) ascends = (
  ap (λ (t : Bool). if t then is_match query e else matches_at query es e.number) (eq-eqb e.number e.number refl),
  matches_later query e es es (e.number + 1) (omega arith) ascends.1 (matches-own query (e.number + 1) es ascends.1),
)

pub filtered : (form : Form) (query : Query) (es : List Entry) → Ascends 1 es → search query es ≡ filter (matches_at query es) (listed es)
unfolding search listing
filtered form query es ascends =
    let test = matches_at query es in
    let all = spots (rows_of form es) in
    let some = spots-matched form query test es (matches-own query 1 es ascends) in
    sym (listing-is form (filter (is_match query) es))
    ∙ ap (λ (ss : List Spot). map number_at (reverse ss)) some
    ∙ ap (map number_at) (sym (filter-turned (λ (s : Spot). test s.number) all))
    ∙ sym (filter-numbers test (reverse all))
    ∙ ap (filter test) (listing-is form es)

pub search-filters : SearchFiltersTheListing
search-filters query a valid = filtered a.config.form query (live a.entries) (live-ascends 1 0 a.entries valid.order)
