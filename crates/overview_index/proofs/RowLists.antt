-- Rows by their numbers: one row more or less.
use Rattle.std.proofs.Common.{◌≡◌, ℕ, Bool, true, false, cond, List, [], ◌∷◌, Option, Some, None, refl, sym, ap, ◌∙◌, subst, if◌then◌else◌}
use Rattle.std.specs.declared.cmp.Ordering.{Ordering}
use Rattle.std.specs.declared.cmp.Ordering.TheVariants.{Less, Equal, Greater}
use Rattle.std.specs.Ordering.{nat_cmp, is_eq, match_ordering}
use Rattle.std.specs.Cmp.{nat_cmp_total, tied_itself}
use Rattle.std.specs.List.{AllByRecursion, list_any}
use Rattle.std.specs.List.Sorted.{IsStrictlySortedBy}
use Rattle.std.specs.Map.{keys_of}
use Rattle.std.specs.BTreeMap.{is_at, insert_entry}
use Rattle.std.specs.BTreeSet.{insert_key}
use Rattle.std.specs.Set.{remove_key}
use Rattle.std.specs.Str.{bytes_eq}
use Rattle.std.proofs.lemmas.Map.Keys.{sorted_head, sorted_tail}
use Rattle.std.proofs.lemmas.Map.Lookups.{exact_unsigned}
use Rattle.std.proofs.lemmas.Option.{same_Some}
use Rattle.std.proofs.lemmas.Slice.Eq.{bytes_eq-Decides}
use Rattle.mail_forms.specs.declared.row.Row.{Row}
use Rattle.overview_index.specs.Listings.{row_in, number_of, without}
use Rattle.overview_index.specs.Views.{RowIdsDiffer}
use Rattle.arch_model.proofs.Owners.{bytes_eq-refl}

-- A number that isn't at the front isn't in the rest either.
pub none_front : {X : Type 0} (t : Bool) (x : X) (later : Option X) → cond t (Some x) later ≡ None → (t ≡ false) × (later ≡ None)
none_front true x later h = absurd (cc)
none_front false x later h = (refl, h)

-- A row under its number, by the two.
pair_is : (n : ℕ) (row : Row) (e : ℕ × Row) → n ≡ e.0 → e.1 ≡ row → let p : ℕ × Row = (n, row) in p ≡ e
pair_is n row e a b = λ i. (a i, sym b i)

-- The numbers after one row more or less.
pub keys-insert : (rows : List (ℕ × Row)) (n : ℕ) (row : Row) → keys_of (insert_entry nat_cmp rows n row) ≡ insert_key nat_cmp (keys_of rows) n
keys-insert [] n row = refl
keys-insert (e ∷ rows) n row = step (nat_cmp n e.0) (keys-insert rows n row)
  where
    step : (r : Ordering) → keys_of (insert_entry nat_cmp rows n row) ≡ insert_key nat_cmp (keys_of rows) n
        → keys_of (match_ordering r ((n, row) ∷ e ∷ rows) ((e.0, row) ∷ rows) (e ∷ insert_entry nat_cmp rows n row)) ≡ match_ordering r (n ∷ e.0 ∷ keys_of rows) (e.0 ∷ keys_of rows) (e.0 ∷ insert_key nat_cmp (keys_of rows) n)
    step Less ih = refl
    step Equal ih = refl
    step Greater ih = ap (λ t. e.0 ∷ t) ih

pub keys-remove : (rows : List (ℕ × Row)) (n : ℕ) → keys_of (without rows n) ≡ remove_key (is_at (nat_cmp n)) (keys_of rows)
keys-remove [] n = refl
keys-remove (e ∷ rows) n = step (is_at (nat_cmp n) e.0) (keys-remove rows n)
  where
    step : (t : Bool) → keys_of (without rows n) ≡ remove_key (is_at (nat_cmp n)) (keys_of rows) → keys_of (cond t rows (e ∷ without rows n)) ≡ cond t (keys_of rows) (e.0 ∷ remove_key (is_at (nat_cmp n)) (keys_of rows))
    step true ih = refl
    step false ih = ap (λ t. e.0 ∷ t) ih

-- A number without a row isn't among the numbers.
pub absent_number : (rows : List (ℕ × Row)) (n : ℕ) → row_in rows n ≡ None → list_any (is_at (nat_cmp n)) (keys_of rows) ≡ false
absent_number [] n h = refl
absent_number (e ∷ rows) n h =
    let parts = none_front (is_at (nat_cmp n) e.0) e.1 (row_in rows n) h in
    rw parts.0 (absent_number rows n parts.1)

-- A new row that was added and removed again leaves what was there.
pub without-with : (rows : List (ℕ × Row)) (n : ℕ) (row : Row) → row_in rows n ≡ None → without (insert_entry nat_cmp rows n row) n ≡ rows
without-with [] n row h = rw (tied n) refl
  where
    tied : (m : ℕ) → nat_cmp m m ≡ Equal
    tied m = tied_itself nat_cmp_total m
without-with (e ∷ rows) n row h =
    let parts = none_front (is_at (nat_cmp n) e.0) e.1 (row_in rows n) h in
    step (nat_cmp n e.0) refl parts.0 (without-with rows n row parts.1)
  where
    tied : (m : ℕ) → nat_cmp m m ≡ Equal
    tied m = tied_itself nat_cmp_total m

    step : (r : Ordering) → nat_cmp n e.0 ≡ r → is_eq r ≡ false → without (insert_entry nat_cmp rows n row) n ≡ rows
        → without (match_ordering r ((n, row) ∷ e ∷ rows) ((e.0, row) ∷ rows) (e ∷ insert_entry nat_cmp rows n row)) n ≡ e ∷ rows
    step Less f g ih = rw (tied n) refl
    step Equal f g ih = absurd (cc)
    step Greater f g ih = rw f (ap (λ t. e ∷ t) ih)

-- The row of a number, put back where it was taken.
pub put-back : (rows : List (ℕ × Row)) (n : ℕ) (row : Row) → IsStrictlySortedBy nat_cmp (keys_of rows) → row_in rows n ≡ Some row → insert_entry nat_cmp (without rows n) n row ≡ rows
put-back [] n row s h = absurd (cc)
put-back (e ∷ rows) n row s h = step (nat_cmp n e.0) refl h (put-back rows n row (sorted_tail nat_cmp e.0 (keys_of rows) s))
  where
    -- A number below the first one isn't there.
    below : (more : List (ℕ × Row)) → AllByRecursion (λ m. nat_cmp e.0 m ≡ Less) (keys_of more) → nat_cmp n e.0 ≡ Less → row_in more n ≡ None
    below [] a f = refl
    below (g ∷ more) a f =
        let less : nat_cmp n g.0 ≡ Less = nat_cmp_total.trans n e.0 g.0 f a.0 in
        rw less (below more a.1 f)

    first : (more : List (ℕ × Row)) → AllByRecursion (λ m. nat_cmp e.0 m ≡ Less) (keys_of more) → n ≡ e.0 → insert_entry nat_cmp more n row ≡ (n, row) ∷ more
    first [] a same = refl
    first (g ∷ more) a same = let less : nat_cmp n g.0 ≡ Less = ap (λ m. nat_cmp m g.0) same ∙ a.0 in rw less refl

    step : (r : Ordering) → nat_cmp n e.0 ≡ r → cond (is_eq r) (Some e.1) (row_in rows n) ≡ Some row → (row_in rows n ≡ Some row → insert_entry nat_cmp (without rows n) n row ≡ rows)
        → insert_entry nat_cmp (cond (is_eq r) rows (e ∷ without rows n)) n row ≡ e ∷ rows
    step Less f g ih = (let none : row_in rows n ≡ None = below rows (sorted_head nat_cmp e.0 (keys_of rows) s) f in absurd (cc))
    step Equal f g ih =
        let same : n ≡ e.0 = exact_unsigned n e.0 f in
        let here : Some e.1 ≡ Some row = g in
        let value : e.1 ≡ row = same_Some e.1 row here in
        first rows (sorted_head nat_cmp e.0 (keys_of rows) s) same ∙ ap (λ (p : ℕ × Row). p ∷ rows) (pair_is n row e same value)
    step Greater f g ih = rw f (ap (λ t. e ∷ t) (ih g))

-- What holds of each row holds after one more.
pub all-insert : (P : ℕ × Row → Type 0) (rows : List (ℕ × Row)) (n : ℕ) (row : Row) → row_in rows n ≡ None → P (n, row) → AllByRecursion P rows → AllByRecursion P (insert_entry nat_cmp rows n row)
all-insert P [] n row h p a = (p, tt)
all-insert P (e ∷ rows) n row h p a =
    let parts = none_front (is_at (nat_cmp n) e.0) e.1 (row_in rows n) h in
    step (nat_cmp n e.0) parts.0 (all-insert P rows n row parts.1 p a.1)
  where
    step : (r : Ordering) → is_eq r ≡ false → AllByRecursion P (insert_entry nat_cmp rows n row) → AllByRecursion P (match_ordering r ((n, row) ∷ e ∷ rows) ((e.0, row) ∷ rows) (e ∷ insert_entry nat_cmp rows n row))
    step Less f ih = (p, a)
    step Equal f ih = absurd (cc)
    step Greater f ih = (a.0, ih)

-- And after one less.
pub all-remove : (P : ℕ × Row → Type 0) (rows : List (ℕ × Row)) (n : ℕ) → AllByRecursion P rows → AllByRecursion P (without rows n)
all-remove P [] n a = tt
all-remove P (e ∷ rows) n a = step (is_at (nat_cmp n) e.0) (all-remove P rows n a.1)
  where
    step : (t : Bool) → AllByRecursion P (without rows n) → AllByRecursion P (cond t rows (e ∷ without rows n))
    step true ih = a.1
    step false ih = (a.0, ih)

-- What holds of each row holds of the row that is found.
pub all-found : (P : ℕ × Row → Type 0) (rows : List (ℕ × Row)) (n : ℕ) (row : Row) → AllByRecursion P rows → row_in rows n ≡ Some row → P (n, row)
all-found P [] n row a h = absurd (cc)
all-found P (e ∷ rows) n row a h = step (nat_cmp n e.0) refl h (λ found. all-found P rows n row a.1 found)
  where
    here : n ≡ e.0 → e.1 ≡ row → P (n, row)
    here same value = subst P (sym (pair_is n row e same value)) a.0

    step : (r : Ordering) → nat_cmp n e.0 ≡ r → cond (is_eq r) (Some e.1) (row_in rows n) ≡ Some row → (row_in rows n ≡ Some row → P (n, row)) → P (n, row)
    step Less f g ih = ih g
    step Equal f g ih = (let found : Some e.1 ≡ Some row = g in here (exact_unsigned n e.0 f) (same_Some e.1 row found))
    step Greater f g ih = ih g

-- No row has an id that isn't found.
pub unowned : (rows : List (ℕ × Row)) (id : List ℕ) → number_of rows id ≡ None → AllByRecursion (λ (f : ℕ × Row). bytes_eq id f.1.id ≡ false) rows
unowned [] id h = tt
unowned (e ∷ rows) id h =
    let parts = none_front (bytes_eq id e.1.id) e.0 (number_of rows id) h in
    (parts.0, unowned rows id parts.1)

-- What equals a text differs from what differs from that.
apart_from : (q id other : List ℕ) → bytes_eq q id ≡ true → bytes_eq other id ≡ false → (t : Bool) → bytes_eq q other ≡ t → t ≡ false
apart_from q id other same differ true f =
    (let one : q ≡ id = (bytes_eq-Decides q id).0 same in
    let two : q ≡ other = (bytes_eq-Decides q other).0 f in
    let is : bytes_eq other id ≡ true = bytes_eq-refl other id (sym two ∙ one) in
    absurd (cc))
apart_from q id other same differ false f = refl

-- An id that no row has isn't found.
pub not_found : (rows : List (ℕ × Row)) (id : List ℕ) → AllByRecursion (λ (f : ℕ × Row). bytes_eq f.1.id id ≡ false) rows → (q : List ℕ) → bytes_eq q id ≡ true → number_of rows q ≡ None
not_found [] id a q same = refl
not_found (e ∷ rows) id a q same =
    let other : bytes_eq q e.1.id ≡ false = apart_from q id e.1.id same a.0 (bytes_eq q e.1.id) refl in
    rw other (not_found rows id a.1 q same)

-- Two texts are compared either way round.
pub bytes_eq-flip : (a b : List ℕ) → bytes_eq a b ≡ false → bytes_eq b a ≡ false
bytes_eq-flip a b h = by (bytes_eq b a) refl
  where
    by : (t : Bool) → bytes_eq b a ≡ t → t ≡ false
    by true f = (let yes : bytes_eq a b ≡ true = bytes_eq-refl a b (sym ((bytes_eq-Decides b a).0 f)) in absurd (cc))
    by false f = refl

all-flip : (rows : List (ℕ × Row)) (id : List ℕ) → AllByRecursion (λ (f : ℕ × Row). bytes_eq id f.1.id ≡ false) rows → AllByRecursion (λ (f : ℕ × Row). bytes_eq f.1.id id ≡ false) rows
all-flip [] id a = tt
all-flip (e ∷ rows) id a = (bytes_eq-flip id e.1.id a.0, all-flip rows id a.1)

-- Rows with different ids, and one more whose id is new.
pub differ-insert : (rows : List (ℕ × Row)) (n : ℕ) (row : Row) → row_in rows n ≡ None → number_of rows row.id ≡ None → RowIdsDiffer rows → RowIdsDiffer (insert_entry nat_cmp rows n row)
differ-insert [] n row h free d = (tt, tt)
differ-insert (e ∷ rows) n row h free d =
    let parts = none_front (is_at (nat_cmp n) e.0) e.1 (row_in rows n) h in
    let frees = none_front (bytes_eq row.id e.1.id) e.0 (number_of rows row.id) free in
    step (nat_cmp n e.0) parts.0 (differ-insert rows n row parts.1 frees.1 d.1)
    (all-insert (λ (f : ℕ × Row). bytes_eq f.1.id e.1.id ≡ false) rows n row parts.1 frees.0 d.0)
  where
    step : (r : Ordering) → is_eq r ≡ false → RowIdsDiffer (insert_entry nat_cmp rows n row) → AllByRecursion (λ (f : ℕ × Row). bytes_eq f.1.id e.1.id ≡ false) (insert_entry nat_cmp rows n row)
        → RowIdsDiffer (match_ordering r ((n, row) ∷ e ∷ rows) ((e.0, row) ∷ rows) (e ∷ insert_entry nat_cmp rows n row))
    step Less f ih a = (all-flip (e ∷ rows) row.id (unowned (e ∷ rows) row.id free), d)
    step Equal f ih a = absurd (cc)
    step Greater f ih a = (a, ih)

pub differ-remove : (rows : List (ℕ × Row)) (n : ℕ) → RowIdsDiffer rows → RowIdsDiffer (without rows n)
differ-remove [] n d = tt
differ-remove (e ∷ rows) n d = step (is_at (nat_cmp n) e.0) (differ-remove rows n d.1)
  where
    step : (t : Bool) → RowIdsDiffer (without rows n) → RowIdsDiffer (cond t rows (e ∷ without rows n))
    step true ih = d.1
    step false ih = (all-remove (λ (f : ℕ × Row). bytes_eq f.1.id e.1.id ≡ false) rows n d.0, ih)

-- The number of an id after one more row whose number and id are new.
pub number-insert : (rows : List (ℕ × Row)) (n : ℕ) (row : Row) (q : List ℕ) → row_in rows n ≡ None → number_of rows row.id ≡ None
    → number_of (insert_entry nat_cmp rows n row) q ≡ (if bytes_eq q row.id then Some n else number_of rows q)
number-insert [] n row q h free = refl
number-insert (e ∷ rows) n row q h free =
    let parts = none_front (is_at (nat_cmp n) e.0) e.1 (row_in rows n) h in
    let frees = none_front (bytes_eq row.id e.1.id) e.0 (number_of rows row.id) free in
    step (nat_cmp n e.0) parts.0 (bytes_eq q row.id) (bytes_eq q e.1.id) refl refl frees.0 (number-insert rows n row q parts.1 frees.1)
  where
    step : (r : Ordering) → is_eq r ≡ false → (t u : Bool) → bytes_eq q row.id ≡ t → bytes_eq q e.1.id ≡ u → bytes_eq row.id e.1.id ≡ false
        → number_of (insert_entry nat_cmp rows n row) q ≡ (if bytes_eq q row.id then Some n else number_of rows q)
        → number_of (match_ordering r ((n, row) ∷ e ∷ rows) ((e.0, row) ∷ rows) (e ∷ insert_entry nat_cmp rows n row)) q ≡ (if t then Some n else if u then Some e.0 else number_of rows q)
    step Less f t u a b c ih = rw (a, b) refl
    step Equal f t u a b c ih = absurd (cc)
    step Greater f true true a b c ih =
        (let one : q ≡ row.id = (bytes_eq-Decides q row.id).0 a in
        let two : q ≡ e.1.id = (bytes_eq-Decides q e.1.id).0 b in
        let yes : bytes_eq row.id e.1.id ≡ true = bytes_eq-refl row.id e.1.id (sym one ∙ two) in
        absurd (cc))
    step Greater f true false a b c ih = rw b (ih ∙ rw a refl)
    step Greater f false true a b c ih = rw b refl
    step Greater f false false a b c ih = rw b (ih ∙ rw a refl)

-- The number of an id after one row less.
pub number-remove : (rows : List (ℕ × Row)) (n : ℕ) (row : Row) (q : List ℕ) → RowIdsDiffer rows → row_in rows n ≡ Some row
    → number_of (without rows n) q ≡ (if bytes_eq q row.id then None else number_of rows q)
number-remove [] n row q d h = absurd (cc)
number-remove (e ∷ rows) n row q d h =
    step (is_at (nat_cmp n) e.0) (bytes_eq q row.id) (bytes_eq q e.1.id) refl refl h (λ found. number-remove rows n row q d.1 found)
  where
    step : (r t u : Bool) → bytes_eq q row.id ≡ t → bytes_eq q e.1.id ≡ u → cond r (Some e.1) (row_in rows n) ≡ Some row
        → (row_in rows n ≡ Some row → number_of (without rows n) q ≡ (if bytes_eq q row.id then None else number_of rows q))
        → number_of (cond r rows (e ∷ without rows n)) q ≡ (if t then None else if u then Some e.0 else number_of rows q)
    step true true u a b f ih = (let here : Some e.1 ≡ Some row = f in let same : e.1 ≡ row = same_Some e.1 row here in not_found rows e.1.id d.0 q (ap (λ (x : Row). bytes_eq q x.id) same ∙ a))
    step true false true a b f ih = (let here : Some e.1 ≡ Some row = f in let same : e.1 ≡ row = same_Some e.1 row here in let no : true ≡ false = sym b ∙ ap (λ (x : Row). bytes_eq q x.id) same ∙ a in absurd (cc))
    step true false false a b f ih = refl
    step false true true a b f ih =
        (let one : q ≡ row.id = (bytes_eq-Decides q row.id).0 a in
        let two : q ≡ e.1.id = (bytes_eq-Decides q e.1.id).0 b in
        let no : bytes_eq row.id e.1.id ≡ false = all-found (λ (f : ℕ × Row). bytes_eq f.1.id e.1.id ≡ false) rows n row d.0 f in
        let yes : bytes_eq row.id e.1.id ≡ true = bytes_eq-refl row.id e.1.id (sym one ∙ two) in
        absurd (cc))
    step false true false a b f ih = rw b (ih f ∙ rw a refl)
    step false false true a b f ih = rw b refl
    step false false false a b f ih = rw b (ih f ∙ rw a refl)
