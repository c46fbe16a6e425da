-- The numbers of rows by their days.
use Rattle.std.specs.Prelude.{◌==◌, nat_lt, nat_le, take_while}
use Rattle.std.proofs.Common.{◌≡◌, ℕ, suc, ◌+◌, Bool, true, false, not, cond, ◌&&◌, ◌||◌, List, [], ◌∷◌, map, take, Option, Some, None, refl, sym, ap, ◌∙◌, arith}
use Rattle.std.proofs.lemmas.Bool.{and_parts, and_from, or_left, or_right, eq-eqb, eqb-true}
use Rattle.std.proofs.lemmas.Bool.Decides.{nat_tests}
use Rattle.std.proofs.lemmas.List.Kept.{IsStrictlySortedBy-filter}
use Rattle.std.specs.Cmp.{both_ways}
use Rattle.std.specs.Option.{option_map_or}
use Rattle.std.specs.List.{list_any, filter, prefix_len, AllByRecursion}
use Rattle.std.specs.List.Sorted.{IsStrictlySortedBy}
use Rattle.std.specs.Ordering.{nat_cmp, ordering_then}
use Rattle.std.specs.declared.cmp.Ordering.TheVariants.{Less, Equal, Greater}
use Rattle.std.specs.declared.ops.Bound.TheVariants.{Included, Unbounded}
use Rattle.std.specs.BTreeMap.{is_at}
use Rattle.std.specs.BTreeMap.Range.{range_contains}
use Rattle.std.specs.BTreeSet.{BTreeSet, contains, UpdatesBy}
use Rattle.query_lang.specs.Matching.{is_between}
use Rattle.word_index.specs.declared.rows.Dated.{Dated}
use Rattle.word_index.specs.declared.rows.KeptRow.{KeptRow}
use Rattle.word_index.specs.Kept.{KeptRows, kept_at, keeps_at}
use Rattle.word_index.specs.Days.{dated_cmp, dated, is_within, numbers_between}
use Rattle.word_index.specs.Tables.{is_of, Lists}
use Rattle.word_index.specs.Postings.{IsListOf}
use Rattle.word_index.proofs.Bools.{cond_or, cond_and, then-eq, is_eq-number}
use Rattle.word_index.proofs.ListLemmas.{any-map, at-same}

-- A day and a number are those of another.
pub at_dated : (day n : ℕ) (q : Dated) → let d : Dated = record { day = day; number = n } in is_at (dated_cmp d) q ≡ ((q.day == day) && is_at (nat_cmp n) q.number)
at_dated day n q = then-eq (nat_cmp day q.day) (nat_cmp n q.number) ∙ ap (λ (b : Bool). b && is_at (nat_cmp n) q.number) (is_eq-number day q.day)

-- One more, and one less.
pub dated-more : (old new : BTreeSet Dated) (day n : ℕ) → (let d : Dated = record { day = day; number = n } in UpdatesBy dated_cmp (dated_cmp d) old new true)
    → (a m : ℕ) → dated new a m ≡ (dated old a m || ((day == a) && is_at (nat_cmp n) m))
dated-more old new day n updates a m =
    let q : Dated = record { day = a; number = m } in
    updates.0 q ∙ ap (λ (b : Bool). cond b true (contains dated_cmp old q)) (at_dated day n q ∙ ap (λ (b : Bool). b && is_at (nat_cmp n) m) (swapped day a))
    ∙ cond_or ((day == a) && is_at (nat_cmp n) m) (contains dated_cmp old q)
  where
    swapped : (x y : ℕ) → (y == x) ≡ (x == y)
    swapped x y = grind (arith, nat_tests)

pub dated-less : (old new : BTreeSet Dated) (day n : ℕ) → (let d : Dated = record { day = day; number = n } in UpdatesBy dated_cmp (dated_cmp d) old new false)
    → (a m : ℕ) → dated new a m ≡ (dated old a m && not ((day == a) && is_at (nat_cmp n) m))
dated-less old new day n updates a m =
    let q : Dated = record { day = a; number = m } in
    updates.0 q ∙ ap (λ (b : Bool). cond b false (contains dated_cmp old q)) (at_dated day n q ∙ ap (λ (b : Bool). b && is_at (nat_cmp n) m) (swapped day a))
    ∙ cond_and ((day == a) && is_at (nat_cmp n) m) (contains dated_cmp old q)
  where
    swapped : (x y : ℕ) → (y == x) ≡ (x == y)
    swapped x y = grind (arith, nat_tests)

-- A day and a number are their own.
at_itself : (d : Dated) → is_at (dated_cmp d) d ≡ true
at_itself d = at_dated d.day d.number d ∙ and_from (d.day == d.day) (is_at (nat_cmp d.number) d.number) (eq-eqb d.day d.day refl) (is_eq-number d.number d.number ∙ eq-eqb d.number d.number refl)

late_too : (a b m n last : ℕ) → nat_le a last ≡ false → ordering_then (nat_cmp a b) (nat_cmp m n) ≡ Less → nat_le b last ≡ false
late_too a b m n last late below = go (nat_lt a b) refl (a == b) refl below
  where
    go : (s : Bool) → nat_lt a b ≡ s → (t : Bool) → (a == b) ≡ t → ordering_then (cond s Less (cond t Equal Greater)) (nat_cmp m n) ≡ Less → nat_le b last ≡ false
    go true s t u h = grind (arith, nat_tests)
    go false s true u h = grind (arith, nat_tests)
    go false s false u h = absurd (cc)

one-more : (n : ℕ) → 1 + n ≡ suc n
one-more n = omega arith

-- An element that passes two tests, among those of a list.
pub record OneOf (p q : Dated → Bool) (xs : List Dated) : Type 0 where
  pub it : Dated
  pub passes : p it ≡ true
  pub inside : q it ≡ true
  pub among : (t : Dated → Bool) → t it ≡ true → list_any t xs ≡ true

one_later : (p q : Dated → Bool) (x : Dated) (xs : List Dated) → OneOf p q xs → OneOf p q (x ∷ xs)
one_later p q x xs found = record { it = found.it; passes = found.passes; inside = found.inside; among = λ t h. or_right (t x) (list_any t xs) (found.among t h) }

one_here : (p q : Dated → Bool) (x : Dated) (xs : List Dated) → p x ≡ true → q x ≡ true → OneOf p q (x ∷ xs)
one_here p q x xs passes inside = record { it = x; passes = passes; inside = inside; among = λ t h. or_left (t x) (list_any t xs) h }

-- A list in which an element passes has one.
one_of : (p : Dated → Bool) (xs : List Dated) → list_any p xs ≡ true → OneOf p p xs
one_of p [] h = absurd (cc)
one_of p (x ∷ xs) h = go (p x) refl h (one_of p xs)
  where
    go : (b : Bool) → p x ≡ b → (b || list_any p xs) ≡ true → (list_any p xs ≡ true → OneOf p p xs) → OneOf p p (x ∷ xs)
    go true is k ih = one_here p p x xs is is
    go false is k ih = one_later p p x xs (ih k)

-- So has a part of a list in which one passes.
one_filtered : (p q : Dated → Bool) (xs : List Dated) → list_any p (filter q xs) ≡ true → OneOf p q xs
one_filtered p q [] h = absurd (cc)
one_filtered p q (x ∷ xs) h = go (q x) refl h (one_filtered p q xs)
  where
    here : (b : Bool) → p x ≡ b → q x ≡ true → (b || list_any p (filter q xs)) ≡ true → (list_any p (filter q xs) ≡ true → OneOf p q xs) → OneOf p q (x ∷ xs)
    here true is inside k ih = one_here p q x xs is inside
    here false is inside k ih = one_later p q x xs (ih k)

    go : (b : Bool) → q x ≡ b → list_any p (cond b (x ∷ filter q xs) (filter q xs)) ≡ true → (list_any p (filter q xs) ≡ true → OneOf p q xs) → OneOf p q (x ∷ xs)
    go true is k ih = here (p x) refl is k ih
    go false is k ih = one_later p q x xs (ih k)

-- The elements at the front that pass are the elements that pass, in a list of rising days.
front_is : (last : ℕ) (xs : List Dated) → IsStrictlySortedBy dated_cmp xs → take_while (λ (d : Dated). nat_le d.day last) xs ≡ filter (λ (d : Dated). nat_le d.day last) xs
unfolding IsStrictlySortedBy
front_is last [] sorted = refl
front_is last (x ∷ xs) sorted = go (nat_le x.day last) refl (front_is last xs sorted.1)
  where
    none : (ys : List Dated) → nat_le x.day last ≡ false → AllByRecursion (λ (y : Dated). dated_cmp x y ≡ Less) ys → filter (λ (d : Dated). nat_le d.day last) ys ≡ []
    none [] late below = refl
    none (y ∷ ys) late below =
        let first : nat_le y.day last ≡ false = late_too x.day y.day x.number y.number last late below.0 in
        ap (λ (b : Bool). cond b (y ∷ filter (λ (d : Dated). nat_le d.day last) ys) (filter (λ (d : Dated). nat_le d.day last) ys)) first ∙ none ys late below.1

    go : (b : Bool) → nat_le x.day last ≡ b → take_while (λ (d : Dated). nat_le d.day last) xs ≡ filter (λ (d : Dated). nat_le d.day last) xs
        → take (cond b (1 + prefix_len (λ (d : Dated). nat_le d.day last) xs) 0) (x ∷ xs) ≡ cond b (x ∷ filter (λ (d : Dated). nat_le d.day last) xs) (filter (λ (d : Dated). nat_le d.day last) xs)
    go true is ih = rw (one-more (prefix_len (λ (d : Dated). nat_le d.day last) xs)) (ap (λ (ys : List Dated). x ∷ ys) ih)
    go false is ih = sym (none xs is sorted.0)

-- Where a table of days starts and ends.
from_start : (first : ℕ) (d : Dated) → let low : Dated = record { day = first; number = 0 } in range_contains dated_cmp (Included low) Unbounded d ≡ nat_le first d.day
from_start first d = grind (arith, nat_tests)

same_filter : (p q : Dated → Bool) → ((d : Dated) → p d ≡ q d) → (xs : List Dated) → filter p xs ≡ filter q xs
same_filter p q same [] = refl
same_filter p q same (x ∷ xs) =
    ap (λ (b : Bool). cond b (x ∷ filter p xs) (filter p xs)) (same x) ∙ ap (λ (ys : List Dated). cond (q x) (x ∷ ys) ys) (same_filter p q same xs)

two_filters : (p q : Dated → Bool) (xs : List Dated) → filter p (filter q xs) ≡ filter (λ d. q d && p d) xs
two_filters p q [] = refl
two_filters p q (x ∷ xs) = go (q x) (p x) (two_filters p q xs)
  where
    go : (b c : Bool) → filter p (filter q xs) ≡ filter (λ d. q d && p d) xs → filter p (cond b (x ∷ filter q xs) (filter q xs)) ≡ cond (b && p x) (x ∷ filter (λ d. q d && p d) xs) (filter (λ d. q d && p d) xs)
    go true c ih = ap (λ (ys : List Dated). cond (p x) (x ∷ ys) ys) ih
    go false c ih = ih

-- The numbers of the days of a range are those of the elements that lie in it.
pub numbers_between-is : (days : BTreeSet Dated) (first last : ℕ) → IsStrictlySortedBy dated_cmp days.keys → numbers_between days first last ≡ map (λ (d : Dated). d.number) (filter (λ (d : Dated). is_between d.day first last) days.keys)
numbers_between-is days first last sorted =
    let low : Dated = record { day = first; number = 0 } in
    let from : Dated → Bool = λ d. range_contains dated_cmp (Included low) Unbounded d in
    let until : Dated → Bool = λ d. nat_le d.day last in
    ap (map (λ (d : Dated). d.number))
    (front_is last (filter from days.keys) (IsStrictlySortedBy-filter dated_cmp from days.keys sorted)
    ∙ two_filters until from days.keys
    ∙ same_filter (λ (d : Dated). from d && until d) (λ (d : Dated). is_between d.day first last) (λ d. ap (λ (b : Bool). b && until d) (from_start first d)) days.keys)

-- A row that is of a day of a range.
within_from : (rows : KeptRows) (n day first last : ℕ) → keeps_at (is_of day) rows n ≡ true → is_between day first last ≡ true → keeps_at (is_within first last) rows n ≡ true
within_from rows n day first last has inside = go (kept_at rows n) has
  where
    go : (o : Option KeptRow) → option_map_or (is_of day) o false ≡ true → option_map_or (is_within first last) o false ≡ true
    go None h = absurd (cc)
    go (Some row) h = ap (λ (d : ℕ). is_between d first last) (eqb-true row.day day h) ∙ inside

-- An element of a list that passes two tests passes one in the part that passes the other.
filtered_any : (p q : Dated → Bool) (xs : List Dated) (d : Dated) → ((t : Dated → Bool) → t d ≡ true → list_any t xs ≡ true) → p d ≡ true → q d ≡ true → list_any p (filter q xs) ≡ true
filtered_any p q xs d among passes inside = both_pass xs (among (λ (e : Dated). q e && p e) (and_from (q d) (p d) inside passes))
  where
    both_pass : (ys : List Dated) → list_any (λ (e : Dated). q e && p e) ys ≡ true → list_any p (filter q ys) ≡ true
    both_pass [] h = h
    both_pass (y ∷ ys) h = go (q y) h (both_pass ys)
      where
        go : (b : Bool) → ((b && p y) || list_any (λ (e : Dated). q e && p e) ys) ≡ true → (list_any (λ (e : Dated). q e && p e) ys ≡ true → list_any p (filter q ys) ≡ true) → list_any p (cond b (y ∷ filter q ys) (filter q ys)) ≡ true
        go true k ih = by (p y) k
          where
            by : (c : Bool) → (c || list_any (λ (e : Dated). q e && p e) ys) ≡ true → (c || list_any p (filter q ys)) ≡ true
            by true l = refl
            by false l = ih l
        go false k ih = ih k

-- The numbers of the days of a range are the numbers of the rows of these days.
pub within_is : (rows : KeptRows) (days : BTreeSet Dated) (first last n : ℕ) → Lists is_of rows (dated days)
    → list_any (is_at (nat_cmp n)) (map (λ (d : Dated). d.number) (filter (λ (d : Dated). is_between d.day first last) days.keys)) ≡ keeps_at (is_within first last) rows n
within_is rows days first last n lists =
    any-map (is_at (nat_cmp n)) (λ (d : Dated). d.number) (filter inside days.keys)
    ∙ both_ways (list_any here (filter inside days.keys)) (keeps_at (is_within first last) rows n) there back
  where
    inside : Dated → Bool
    inside d = is_between d.day first last

    here : Dated → Bool
    here d = is_at (nat_cmp n) d.number

    there : list_any here (filter inside days.keys) ≡ true → keeps_at (is_within first last) rows n ≡ true
    there h =
        let found = one_filtered here inside days.keys h in
        let d = found.it in
        let kept : dated days d.day d.number ≡ true = found.among (is_at (dated_cmp d)) (at_itself d) in
        let row : keeps_at (is_of d.day) rows d.number ≡ true = sym (lists d.day d.number) ∙ kept in
        let same : n ≡ d.number = at-same n d.number found.passes in
        within_from rows n d.day first last (ap (λ (m : ℕ). keeps_at (is_of d.day) rows m) same ∙ row) found.inside

    back : keeps_at (is_within first last) rows n ≡ true → list_any here (filter inside days.keys) ≡ true
    back h = go (kept_at rows n) refl h
      where
        go : (o : Option KeptRow) → kept_at rows n ≡ o → option_map_or (is_within first last) o false ≡ true → list_any here (filter inside days.keys) ≡ true
        go None is k = absurd (cc)
        go (Some row) is k =
            let own : keeps_at (is_of row.day) rows n ≡ true = ap (λ (o : Option KeptRow). option_map_or (is_of row.day) o false) is ∙ eq-eqb row.day row.day refl in
            let q : Dated = record { day = row.day; number = n } in
            let kept : list_any (is_at (dated_cmp q)) days.keys ≡ true = lists row.day n ∙ own in
            let found = one_of (is_at (dated_cmp q)) days.keys kept in
            let parts = and_parts (found.it.day == row.day) (is_at (nat_cmp n) found.it.number) (sym (at_dated row.day n found.it) ∙ found.passes) in
            let lies : inside found.it ≡ true = ap (λ (d : ℕ). is_between d first last) (eqb-true found.it.day row.day parts.0) ∙ k in
            filtered_any here inside days.keys found.it found.among parts.1 lies

-- The list of the numbers of the days of a range.
pub within-list : (rows : KeptRows) (days : BTreeSet Dated) (first last : ℕ) (numbers list : List ℕ) → numbers ≡ numbers_between days first last → IsStrictlySortedBy dated_cmp days.keys → Lists is_of rows (dated days)
    → IsListOf list (λ n. list_any (is_at (nat_cmp n)) numbers) → IsListOf list (keeps_at (is_within first last) rows)
within-list rows days first last numbers list is sorted lists listed =
    record {
      rising = listed.rising;
      has = λ n.
          listed.has n ∙ ap (list_any (is_at (nat_cmp n))) (is ∙ numbers_between-is days first last sorted)
          ∙ within_is rows days first last n lists;
    }
