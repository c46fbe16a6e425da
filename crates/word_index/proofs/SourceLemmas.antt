-- Lists in which all rows of an answer stand, and what is found by them.
use Rattle.std.proofs.Common.{◌≡◌, ℕ, ◌≤◌, Bool, true, false, cond, ◌&&◌, ◌⊎◌, inl, inr, List, [], ◌∷◌, length, get_or, drop, Option, Some, None, is_some, option_map, refl, sym, ap, subst, ◌∙◌, arith}
use Rattle.std.proofs.lemmas.Bool.{and_parts}
use Rattle.std.proofs.lemmas.List.Elements.{filter_agree}
use Rattle.std.proofs.lemmas.Map.Entries.{option_filter, lookup-filter-values}
use Rattle.std.proofs.lemmas.Map.Keys.{IsDistinct-from_sorted}
use Rattle.std.proofs.lemmas.Map.Made.{is_some-lookup}
use Rattle.std.specs.Cmp.{nat_cmp_total, eq_by_cmp_equiv}
use Rattle.std.specs.Option.{option_map_or}
use Rattle.std.specs.List.{filter, AllByRecursion}
use Rattle.std.specs.List.Sorted.{IsStrictlySortedBy}
use Rattle.std.specs.Map.{keys_of}
use Rattle.std.specs.Ordering.{nat_cmp}
use Rattle.std.specs.declared.cmp.Ordering.TheVariants.{Less}
use Rattle.std.specs.BTreeMap.{is_at}
use Rattle.query_lang.specs.declared.query.Query.{Query}
use Rattle.query_lang.specs.Matching.{is_between, in_ranges, matches}
use Rattle.word_index.specs.declared.asking.Asked.{Asked}
use Rattle.word_index.specs.declared.sources.Source.{Source}
use Rattle.word_index.specs.declared.sources.Source.TheVariants.{Days}
use Rattle.word_index.specs.declared.rows.KeptRow.{KeptRow}
use Rattle.word_index.specs.Rows.{WordRow, row_at, passes_at, matching, found}
use Rattle.word_index.specs.Kept.{KeptRows, kept_at, keeps_at, shown, shown_all, IsHeld, AllHeld}
use Rattle.word_index.specs.Postings.{IsListOf}
use Rattle.word_index.specs.Asked.{matches_asked}
use Rattle.word_index.specs.Sources.{passes, HasEachMatch, IsDaySource}
use Rattle.word_index.proofs.HeldLemmas.{held-at}
use Rattle.word_index.proofs.RowLemmas.{row_at-shown, keys-shown}
use Rattle.word_index.proofs.ListLemmas.{IsListOf-same, IsListOf-filter, one_list}

-- A range that is asked.
pub day-source : (days rest : List ℕ) → 2 ≤ length rest → ((day : ℕ) → in_ranges days day ≡ true → in_ranges rest day ≡ true) → IsDaySource days (Days (get_or rest 0 0) (get_or rest 1 0))
day-source days [] long within row all = absurd (omega arith)
day-source days (first ∷ []) long within row all = absurd (omega arith)
day-source days (first ∷ last ∷ rest) long within row all = (and_parts (is_between row.day first last) (in_ranges rest row.day) (within row.day all)).0

-- The ranges after it are asked, too.
pub days-more : (days rest : List ℕ) → 2 ≤ length rest → ((day : ℕ) → in_ranges days day ≡ true → in_ranges rest day ≡ true) → (day : ℕ) → in_ranges days day ≡ true → in_ranges (drop 2 rest) day ≡ true
days-more days [] long within day all = absurd (omega arith)
days-more days (first ∷ []) long within day all = absurd (omega arith)
days-more days (first ∷ last ∷ rest) long within day all = (and_parts (is_between day first last) (in_ranges rest day) (within day all)).1

-- One more range may be chosen.
pub day-step : (days : List ℕ) (start old new : Source) (first last : ℕ) → (old ≡ start) ⊎ IsDaySource days old → (new ≡ old) ⊎ (new ≡ Days first last) → IsDaySource days (Days first last) → (new ≡ start) ⊎ IsDaySource days new
day-step days start old new first last (inl same) (inl kept) is = inl (kept ∙ same)
day-step days start old new first last (inr source) (inl kept) is = inr (subst (IsDaySource days) (sym kept) source)
day-step days start old new first last before (inr chosen) is = inr (subst (IsDaySource days) (sym chosen) is)

-- The numbers of some rows rise.
all_keys-filter : (P : ℕ → Type 0) (test : ℕ × WordRow → Bool) (rows : List (ℕ × WordRow)) → AllByRecursion P (keys_of rows) → AllByRecursion P (keys_of (filter test rows))
all_keys-filter P test [] h = h
all_keys-filter P test (r ∷ rs) h = go (test r) (all_keys-filter P test rs h.1)
  where
    go : (b : Bool) → AllByRecursion P (keys_of (filter test rs)) → AllByRecursion P (keys_of (cond b (r ∷ filter test rs) (filter test rs)))
    go true ih = (h.0, ih)
    go false ih = ih

sorted-filter : (test : ℕ × WordRow → Bool) (rows : List (ℕ × WordRow)) → IsStrictlySortedBy nat_cmp (keys_of rows) → IsStrictlySortedBy nat_cmp (keys_of (filter test rows))
unfolding IsStrictlySortedBy
sorted-filter test [] h = tt
sorted-filter test (r ∷ rs) h = go (test r) (sorted-filter test rs h.1)
  where
    go : (b : Bool) → IsStrictlySortedBy nat_cmp (keys_of (filter test rs)) → IsStrictlySortedBy nat_cmp (keys_of (cond b (r ∷ filter test rs) (filter test rs)))
    go true ih = (all_keys-filter (λ (n : ℕ). nat_cmp r.0 n ≡ Less) test rs h.0, ih)
    go false ih = ih

is_some-filter : (test : WordRow → Bool) (o : Option WordRow) → is_some (option_filter test o) ≡ option_map_or test o false
is_some-filter test None = refl
is_some-filter test (Some row) = go (test row)
  where
    go : (b : Bool) → is_some (cond b (Some row) None) ≡ b
    go true = refl
    go false = refl

-- The numbers of all rows.
pub all-list : (rows : KeptRows) → IsStrictlySortedBy nat_cmp (keys_of rows) → IsListOf (keys_of rows) (keeps_at (λ (row : KeptRow). true) rows)
all-list rows rising = record { rising = rising; has = λ n. sym (is_some-lookup (is_at (nat_cmp n)) rows) ∙ there (kept_at rows n) }
  where
    there : (o : Option KeptRow) → is_some o ≡ option_map_or (λ (row : KeptRow). true) o false
    there None = refl
    there (Some row) = refl

-- What is found by a query is the list of the numbers whose rows match.
pub found-list : (query : Query) (rows : List (ℕ × WordRow)) → IsStrictlySortedBy nat_cmp (keys_of rows) → IsListOf (found query rows) (passes_at (λ (row : WordRow). matches query row.words row.day) rows)
found-list query rows rising =
    let test : WordRow → Bool = λ row. matches query row.words row.day in
    record {
      rising = sorted-filter (λ (r : ℕ × WordRow). test r.1) rows rising;
      has = λ n.
          sym (is_some-lookup (is_at (nat_cmp n)) (filter (λ (r : ℕ × WordRow). test r.1) rows))
          ∙ ap is_some (lookup-filter-values (eq_by_cmp_equiv nat_cmp_total) test n rows (IsDistinct-from_sorted nat_cmp (keys_of rows) rising))
          ∙ is_some-filter test (row_at rows n);
    }

-- A query matches a row exactly if the row has the words that it asks, by their numbers.
abbrev pub IsAskedBy : List (List ℕ) → Query → List Asked → List ℕ → Type 0
IsAskedBy words query asked days = (row : KeptRow) → IsHeld words row → let it = shown words row in matches query it.words it.day ≡ matches_asked asked days row

-- So it is for the row of a number.
asked-at : (words : List (List ℕ)) (query : Query) (asked : List Asked) (days : List ℕ) (rows : KeptRows) → AllHeld words rows → IsAskedBy words query asked days → (n : ℕ) → keeps_at (matches_asked asked days) rows n ≡ matching query (shown_all words rows) n
asked-at words query asked days rows held same n =
    go (kept_at rows n) refl ∙ sym (ap (λ (o : Option WordRow). option_map_or (λ (row : WordRow). matches query row.words row.day) o false) (row_at-shown words rows n))
  where
    go : (o : Option KeptRow) → kept_at rows n ≡ o → option_map_or (matches_asked asked days) o false ≡ option_map_or (λ (row : WordRow). matches query row.words row.day) (option_map (shown words) o) false
    go None is = refl
    go (Some row) is = sym (same row (held-at words rows n row held is))

-- What matches in a list in which all rows of the answer stand is what is found.
pub found-is : (words : List (List ℕ)) (query : Query) (rows : KeptRows) (asked : List Asked) (days : List ℕ) (source : Source) (numbers : List ℕ) → IsStrictlySortedBy nat_cmp (keys_of rows)
    → AllHeld words rows → IsAskedBy words query asked days → HasEachMatch asked days source → IsListOf numbers (keeps_at (passes source) rows)
    → filter (keeps_at (matches_asked asked days) rows) numbers ≡ found query (shown_all words rows)
found-is words query rows asked days source numbers rising held same is list =
    one_list (filter (keeps_at (matches_asked asked days) rows) numbers) (found query (shown_all words rows)) (keeps_at (matches_asked asked days) rows)
    (IsListOf-same (filter (keeps_at (matches_asked asked days) rows) numbers) (λ n. keeps_at (passes source) rows n && keeps_at (matches_asked asked days) rows n) (keeps_at (matches_asked asked days) rows)
    (λ n. stands (kept_at rows n)) (IsListOf-filter numbers (keeps_at (passes source) rows) (keeps_at (matches_asked asked days) rows) list))
    (IsListOf-same (found query (shown_all words rows)) (matching query (shown_all words rows)) (keeps_at (matches_asked asked days) rows) (λ n. sym (asked-at words query asked days rows held same n))
    (found-list query (shown_all words rows) (subst (IsStrictlySortedBy nat_cmp) (sym (keys-shown words rows)) rising)))
  where
    stands : (o : Option KeptRow) → (option_map_or (passes source) o false && option_map_or (matches_asked asked days) o false) ≡ option_map_or (matches_asked asked days) o false
    stands None = refl
    stands (Some row) = go (matches_asked asked days row) refl
      where
        go : (b : Bool) → matches_asked asked days row ≡ b → (passes source row && b) ≡ b
        go true h = ap (λ (x : Bool). x && true) (is row h)
        go false h = none (passes source row)
          where
            none : (x : Bool) → (x && false) ≡ false
            none true = refl
            none false = refl

-- Where the words that are asked say when a row matches, those of some numbers match that have them.
pub matching-is : (words : List (List ℕ)) (query : Query) (rows : KeptRows) (asked : List Asked) (days numbers : List ℕ) → AllHeld words rows → IsAskedBy words query asked days
    → filter (keeps_at (matches_asked asked days) rows) numbers ≡ filter (matching query (shown_all words rows)) numbers
matching-is words query rows asked days numbers held same = filter_agree (keeps_at (matches_asked asked days) rows) (matching query (shown_all words rows)) (asked-at words query asked days rows held same) numbers
