-- Where rows stand in the order of dates, after one row more or less.
use Rattle.std.proofs.Common.{◌≡◌, ℕ, Bool, false, List, [], ◌∷◌, Some, None, refl, sym, ap, ◌∙◌}
use Rattle.std.specs.declared.cmp.Ordering.{Ordering}
use Rattle.std.specs.declared.cmp.Ordering.TheVariants.{Less, Equal, Greater}
use Rattle.std.specs.Ordering.{nat_cmp, is_eq, match_ordering, ordering_then}
use Rattle.std.specs.Cmp.{IsTotalOrder, nat_cmp_total, then_total, on_total}
use Rattle.std.specs.List.{AllByRecursion, list_any}
use Rattle.std.specs.List.Sorted.{IsStrictlySortedBy}
use Rattle.std.specs.Map.{keys_of}
use Rattle.std.specs.BTreeMap.{is_at, insert_entry}
use Rattle.std.specs.BTreeSet.{insert_key}
use Rattle.std.specs.Set.{remove_key}
use Rattle.std.proofs.lemmas.Bool.{or_parts}
use Rattle.std.proofs.lemmas.Map.Lookups.{CmpEqualImpliesEq, exact_pairs, exact_unsigned}
use Rattle.ranked_set.proofs.SortedKeys.{insert-insert, remove-insert}
use Rattle.mail_forms.specs.declared.row.Row.{Row}
use Rattle.overview_index.specs.Listings.{row_in, without, spot_of, spot_cmp, spots}
use Rattle.overview_index.specs.declared.spot.Spot.{Spot}
use Rattle.overview_index.proofs.RowLists.{none_front, put-back}

-- Spots that compare as equal are one.
pub exact_spots : CmpEqualImpliesEq spot_cmp
exact_spots a b h = ap (λ (p : ℕ × ℕ). record { secs = p.0; number = p.1 }) (exact_pairs nat_cmp nat_cmp exact_unsigned exact_unsigned (a.secs, a.number) (b.secs, b.number) h)

pub spots_total : IsTotalOrder spot_cmp
spots_total = then_total (on_total (λ (s : Spot). s.secs) nat_cmp_total) (on_total (λ (s : Spot). s.number) nat_cmp_total)

-- One more row, wherever it is among the numbers.
pub spots-insert : (rows : List (ℕ × Row)) (n : ℕ) (row : Row) → row_in rows n ≡ None → spots (insert_entry nat_cmp rows n row) ≡ insert_key spot_cmp (spots rows) (spot_of row)
spots-insert [] n row h = refl
spots-insert (e ∷ rows) n row h =
    let parts = none_front (is_at (nat_cmp n) e.0) e.1 (row_in rows n) h in
    step (nat_cmp n e.0) parts.0 (spots-insert rows n row parts.1)
  where
    step : (r : Ordering) → is_eq r ≡ false → spots (insert_entry nat_cmp rows n row) ≡ insert_key spot_cmp (spots rows) (spot_of row)
        → spots (match_ordering r ((n, row) ∷ e ∷ rows) ((e.0, row) ∷ rows) (e ∷ insert_entry nat_cmp rows n row)) ≡ insert_key spot_cmp (insert_key spot_cmp (spots rows) (spot_of e.1)) (spot_of row)
    step Less f ih = refl
    step Equal f ih = absurd (cc)
    step Greater f ih = ap (λ xs. insert_key spot_cmp xs (spot_of e.1)) ih ∙ insert-insert spots_total exact_spots (spot_of row) (spot_of e.1) (spots rows)

-- Spots of different numbers differ.
apart_by_number : (a b : Spot) → is_eq (nat_cmp a.number b.number) ≡ false → is_eq (spot_cmp a b) ≡ false
apart_by_number a b h = by (nat_cmp a.secs b.secs) h
  where
    by : (r : Ordering) → is_eq (nat_cmp a.number b.number) ≡ false → is_eq (ordering_then r (nat_cmp a.number b.number)) ≡ false
    by Less k = refl
    by Equal k = k
    by Greater k = refl

any-insert : (test : Spot → Bool) (xs : List Spot) (x : Spot) → test x ≡ false → list_any test xs ≡ false → list_any test (insert_key spot_cmp xs x) ≡ false
any-insert test [] x h none = rw h refl
any-insert test (y ∷ ys) x h none = step (spot_cmp x y) (any-insert test ys x h (or_parts (test y) (list_any test ys) none).1)
  where
    step : (r : Ordering) → list_any test (insert_key spot_cmp ys x) ≡ false → list_any test (match_ordering r (x ∷ y ∷ ys) (y ∷ ys) (y ∷ insert_key spot_cmp ys x)) ≡ false
    step Less ih = rw h none
    step Equal ih = none
    step Greater ih = rw (or_parts (test y) (list_any test ys) none).0 ih

-- No row stands where a number without a row would.
pub absent_spot : (rows : List (ℕ × Row)) (spot : Spot) → AllByRecursion (λ (e : ℕ × Row). e.1.number ≡ e.0) rows → row_in rows spot.number ≡ None → list_any (is_at (spot_cmp spot)) (spots rows) ≡ false
absent_spot [] spot a h = refl
absent_spot (e ∷ rows) spot a h =
    let parts = none_front (is_at (nat_cmp spot.number) e.0) e.1 (row_in rows spot.number) h in
    let other : is_eq (nat_cmp spot.number e.1.number) ≡ false = ap (λ m. is_eq (nat_cmp spot.number m)) a.0 ∙ parts.0 in
    any-insert (is_at (spot_cmp spot)) (spots rows) (spot_of e.1) (apart_by_number spot (spot_of e.1) other) (absent_spot rows spot a.1 parts.1)

-- One row less.
pub spots-remove : (rows : List (ℕ × Row)) (n : ℕ) (row : Row) → IsStrictlySortedBy nat_cmp (keys_of rows) → AllByRecursion (λ (e : ℕ × Row). e.1.number ≡ e.0) (without rows n) → row.number ≡ n
    → row_in rows n ≡ Some row → row_in (without rows n) n ≡ None → spots (without rows n) ≡ remove_key (is_at (spot_cmp (spot_of row))) (spots rows)
spots-remove rows n row s a is h gone =
    let back : spots rows ≡ insert_key spot_cmp (spots (without rows n)) (spot_of row) =
    ap spots (sym (put-back rows n row s h)) ∙ spots-insert (without rows n) n row gone in
    let absent : list_any (is_at (spot_cmp (spot_of row))) (spots (without rows n)) ≡ false =
    absent_spot (without rows n) (spot_of row) a (ap (row_in (without rows n)) is ∙ gone) in
    sym (remove-insert spots_total (spot_of row) (spots (without rows n)) absent) ∙ ap (remove_key (is_at (spot_cmp (spot_of row)))) (sym back)
