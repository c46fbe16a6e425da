-- The rows of an archive's messages: what is found among them, and one message more or less.
use Rattle.std.proofs.Common.{◌≡◌, ◌==◌, ◌<◌, ◌≤◌, ◌+◌, ◌&&◌, ℕ, Bool, true, false, cond, nat_lt, nat_le, List, [], ◌∷◌, ◌++◌, length, map, reverse, Option, Some, None, refl, sym, ap, ◌∙◌, arith, if◌then◌else◌}
use Rattle.std.specs.Prelude.{count_by, is_some, IsSome}
use Rattle.std.specs.declared.cmp.Ordering.{Ordering}
use Rattle.std.specs.declared.cmp.Ordering.TheVariants.{Less, Equal, Greater}
use Rattle.std.specs.Ordering.{nat_cmp, is_eq, match_ordering}
use Rattle.std.specs.List.{AllByRecursion, filter}
use Rattle.std.specs.Map.{keys_of}
use Rattle.std.specs.BTreeMap.{is_at, insert_entry}
use Rattle.std.specs.BTreeSet.{insert_key}
use Rattle.std.specs.Str.{bytes_eq}
use Rattle.std.proofs.lemmas.Bool.{ltb-true, eqb-true, eq-eqb}
use Rattle.std.proofs.lemmas.List.{reverse-append}
use Rattle.std.proofs.lemmas.List.Sums.{sum_by-cons}
use Rattle.arch_base.specs.declared.ids.Form.{Form}
use Rattle.mail_forms.specs.declared.row.Row.{Row}
use Rattle.mail_reader.specs.Ids.{own_id}
use Rattle.arch_model.specs.Archives.{Entry, is_id, text_of}
use Rattle.arch_model.specs.Listings.{row_at, rows_of, row_in as row_shown, number_of_id, date_at, dated, date_cmp, by_date, number_beside, listing as listed}
use Rattle.arch_model.specs.Overviews.{id_or_nothing, id_fact}
use Rattle.arch_model.specs.Rows.{row_of}
use Rattle.arch_model.specs.Threading.{keys_of as keys_at}
use Rattle.mail_date.specs.declared.moment.Moment.{Moment}
use Rattle.arch_model.specs.Shelves.{is_between, live_between as live_among, IsGreatestLive}
use Rattle.arch_model.specs.Standing.{IsLeastLive}
use Rattle.arch_model.proofs.LiveEntries.{without as without_number}
use Rattle.overview_index.specs.Listings.{row_in, number_of, with_row, without, spot_of, spot_cmp, spots, number_at, listing, live_between, IsLeastFrom, IsGreatestTo}
use Rattle.overview_index.specs.declared.spot.Spot.{Spot}

-- The number of a row is its message's.
pub row-number : (form : Form) (n : ℕ) (text : List ℕ) (moment : ℕ) → (row_of form n text moment).number ≡ n
unfolding row_of
row-number form n text moment = refl

-- The date of a row is its message's.
pub row-date : (form : Form) (e : Entry) → (row_at form e).date ≡ date_at e
unfolding row_of
row-date form e = refl

-- The ids of a row are its message's keys.
pub row-keys : (form : Form) (e : Entry) → (row_at form e).id ∷ (row_at form e).refs ≡ keys_at e
unfolding row_of
row-keys form e = refl

-- Each of these messages has an own id.
abbrev pub HasId : Entry → Type 0
HasId e = IsSome (own_id e.text)

id_step : (own : Option (List ℕ)) (q : List ℕ) → IsSome own → bytes_eq q (id_or_nothing own) ≡ is_id q own
id_step None q some = absurd (let wrong : false ≡ true = some in cc)
id_step (Some id) q some = refl

-- The id of a row is its message's own id.
pub row-id : (form : Form) (e : Entry) (q : List ℕ) → HasId e → bytes_eq q (row_at form e).id ≡ is_id q (own_id e.text)
unfolding row_of id_fact
row-id form e q has = id_step (own_id e.text) q has

-- The tests for a number.
pub at_is : (n m : ℕ) → is_at (nat_cmp n) m ≡ (m == n)
at_is n m = by (nat_lt n m) (n == m) (m == n) refl refl refl where
  by : (t u v : Bool) → nat_lt n m ≡ t → (n == m) ≡ u → (m == n) ≡ v → is_eq (cond t Less (cond u Equal Greater)) ≡ v
  by true u true a b c = absurd (let less = ltb-true n m a in let same : m ≡ n = eqb-true m n c in omega (arith, less, same))
  by true u false a b c = refl
  by false true true a b c = refl
  by false true false a b c = absurd (let same : n ≡ m = eqb-true n m b in let yes : (m == n) ≡ true = eq-eqb m n (sym same) in let wrong : true ≡ false = sym yes ∙ c in cc)
  by false false true a b c = absurd (let same : m ≡ n = eqb-true m n c in let yes : (n == m) ≡ true = eq-eqb n m (sym same) in let wrong : true ≡ false = sym yes ∙ b in cc)
  by false false false a b c = refl

-- The row of a number.
row_step : (t u : Bool) (x : Row) (found other : Option Row) → t ≡ u → found ≡ other → cond t (Some x) found ≡ (if u then Some x else other)
row_step true true x found other same is = refl
row_step true false x found other same is = absurd (cc)
row_step false true x found other same is = absurd (cc)
row_step false false x found other same is = is

pub row-is : (form : Form) (es : List Entry) (n : ℕ) → row_in (rows_of form es) n ≡ row_shown form es n
row-is form [] n = refl
row-is form (e ∷ es) n = row_step (is_at (nat_cmp n) e.number) (e.number == n) (row_at form e) (row_in (rows_of form es) n) (row_shown form es n) (at_is n e.number) (row-is form es n)

-- There is a row just where there is a text.
shown_step : (t : Bool) (x : Row) (text : List ℕ) (found : Option Row) (other : Option (List ℕ)) → is_some found ≡ is_some other → is_some (if t then Some x else found) ≡ is_some (if t then Some text else other)
shown_step true x text found other is = refl
shown_step false x text found other is = is

pub row-shown : (form : Form) (es : List Entry) (n : ℕ) → is_some (row_shown form es n) ≡ is_some (text_of es n)
row-shown form [] n = refl
row-shown form (e ∷ es) n = shown_step (e.number == n) (row_at form e) e.text (row_shown form es n) (text_of es n) (row-shown form es n)

pub row-text : (form : Form) (es : List Entry) (n : ℕ) → is_some (row_in (rows_of form es) n) ≡ is_some (text_of es n)
row-text form es n = ap is_some (row-is form es n) ∙ row-shown form es n

none_of : {X : Type 0} (found : Option X) (other : Option Row) → is_some other ≡ is_some found → other ≡ None → found ≡ None
none_of None other same none = refl
none_of (Some x) other same none = absurd (let wrong : is_some other ≡ false = ap is_some none in let yes : true ≡ false = sym same ∙ wrong in cc)

-- The number of an id.
number_step : (t u : Bool) (n : ℕ) (found other : Option ℕ) → t ≡ u → found ≡ other → (if t then Some n else found) ≡ (if u then Some n else other)
number_step true true n found other same is = refl
number_step true false n found other same is = absurd (cc)
number_step false true n found other same is = absurd (cc)
number_step false false n found other same is = is

pub number-is : (form : Form) (es : List Entry) (q : List ℕ) → AllByRecursion HasId es → number_of (rows_of form es) q ≡ number_of_id es q
number-is form [] q all = refl
number-is form (e ∷ es) q all = number_step (bytes_eq q (row_at form e).id) (is_id q (own_id e.text)) e.number (number_of (rows_of form es) q) (number_of_id es q) (row-id form e q all.0) (number-is form es q all.1)

-- Numbers from one on, and up to one.
pub least-live : (form : Form) (es : List Entry) (n : ℕ) (found : Option ℕ) → IsLeastFrom (rows_of form es) n found → IsLeastLive es n found
least-live form es n None none = λ m above. none_of (text_of es m) (row_in (rows_of form es) m) (row-text form es m) (none m above)
least-live form es n (Some k) least = (least.0, sym (row-text form es k) ∙ least.1, λ m above below. none_of (text_of es m) (row_in (rows_of form es) m) (row-text form es m) (least.2 m above below))

pub greatest-live : (form : Form) (es : List Entry) (n : ℕ) (found : Option ℕ) → IsGreatestTo (rows_of form es) n found → IsGreatestLive es n found
greatest-live form es n None none = λ m below. none_of (text_of es m) (row_in (rows_of form es) m) (row-text form es m) (none m below)
greatest-live form es n (Some k) greatest = (greatest.0, sym (row-text form es k) ∙ greatest.1, λ m above below. none_of (text_of es m) (row_in (rows_of form es) m) (row-text form es m) (greatest.2 m below above))

-- How many numbers are between two.
count-cons : (test : ℕ → Bool) (m : ℕ) (ms : List ℕ) → count_by test (m ∷ ms) ≡ cond (test m) 1 0 + count_by test ms
count-cons test m ms = sum_by-cons (λ x. cond (test x) 1 0) m ms

between_step : (t : Bool) (e : Entry) (fs : List Entry) (count : ℕ) → count ≡ length fs → cond t 1 0 + count ≡ length (if t then e ∷ fs else fs)
between_step true e fs count is = omega (arith, is)
between_step false e fs count is = omega (arith, is)

pub crash_between-live : (form : Form) (es : List Entry) (low high : ℕ) → live_between (rows_of form es) low high ≡ live_among es low high
crash_between-live form [] low high = refl
crash_between-live form (e ∷ es) low high =
    count-cons (λ m. nat_le low m && nat_le m high) e.number (keys_of (rows_of form es))
    ∙ between_step (nat_le low e.number && nat_le e.number high) e (filter (is_between low high) es) (live_between (rows_of form es) low high) (crash_between-live form es low high)

-- The listing.
abbrev pub pair_of : Spot → ℕ × ℕ
pair_of spot = (spot.secs, spot.number)

insert_pair : (xs : List Spot) (x : Spot) → map pair_of (insert_key spot_cmp xs x) ≡ insert_key date_cmp (map pair_of xs) (pair_of x)
insert_pair [] x = refl
insert_pair (y ∷ ys) x = step (spot_cmp x y) (insert_pair ys x) where
  step : (r : Ordering) → map pair_of (insert_key spot_cmp ys x) ≡ insert_key date_cmp (map pair_of ys) (pair_of x)
      → map pair_of (match_ordering r (x ∷ y ∷ ys) (y ∷ ys) (y ∷ insert_key spot_cmp ys x)) ≡ match_ordering r (pair_of x ∷ pair_of y ∷ map pair_of ys) (pair_of y ∷ map pair_of ys) (pair_of y ∷ insert_key date_cmp (map pair_of ys) (pair_of x))
  step Less ih = refl
  step Equal ih = refl
  step Greater ih = ap (λ ps. pair_of y ∷ ps) ih

-- The number in a row is its message's, here in place of that in a spot.
spot-pair : (form : Form) (e : Entry) → pair_of (spot_of (row_at form e)) ≡ dated e
spot-pair form e =
    ap (λ n. ((row_at form e).date.secs, n)) (row-number form e.number e.text e.moment) ∙ ap (λ (date : Moment). (date.secs, e.number)) (row-date form e)

spots-dated : (form : Form) (es : List Entry) → map pair_of (spots (rows_of form es)) ≡ by_date es
spots-dated form [] = refl
spots-dated form (e ∷ es) = insert_pair (spots (rows_of form es)) (spot_of (row_at form e)) ∙ ap (λ p. insert_key date_cmp (map pair_of (spots (rows_of form es))) p) (spot-pair form e) ∙ ap (λ ps. insert_key date_cmp ps (dated e)) (spots-dated form es)

map_append : (xs ys : List Spot) → map pair_of (xs ++ ys) ≡ map pair_of xs ++ map pair_of ys
map_append [] ys = refl
map_append (x ∷ xs) ys = ap (λ ps. pair_of x ∷ ps) (map_append xs ys)

reversed_pairs : (xs : List Spot) → map pair_of (reverse xs) ≡ reverse (map pair_of xs)
reversed_pairs [] = refl
reversed_pairs (x ∷ xs) =
    ap (map pair_of) (reverse-append (x ∷ []) xs)
    ∙ map_append (reverse xs) (x ∷ [])
    ∙ ap (λ ps. ps ++ pair_of x ∷ []) (reversed_pairs xs)
    ∙ sym (reverse-append (pair_of x ∷ []) (map pair_of xs))

numbers_of_pairs : (xs : List Spot) → map number_at xs ≡ map number_beside (map pair_of xs)
numbers_of_pairs [] = refl
numbers_of_pairs (x ∷ xs) = ap (λ ns. x.number ∷ ns) (numbers_of_pairs xs)

pub listing-is : (form : Form) (es : List Entry) → listing (rows_of form es) ≡ listed es
unfolding listing listed
listing-is form es = numbers_of_pairs (reverse (spots (rows_of form es))) ∙ ap (map number_beside) (reversed_pairs (spots (rows_of form es)) ∙ ap reverse (spots-dated form es))

-- One more message, whose number is above all others.
abbrev pub AllBelow : ℕ → List Entry → Type 0
AllBelow n es = AllByRecursion (λ (e : Entry). e.number < n) es

pub above_front : (n m : ℕ) → m < n → nat_cmp n m ≡ Greater
above_front n m below = by (nat_lt n m) (n == m) refl refl where
  by : (t u : Bool) → nat_lt n m ≡ t → (n == m) ≡ u → cond t Less (cond u Equal Greater) ≡ Greater
  by true u a b = absurd (let less = ltb-true n m a in omega (arith, less, below))
  by false true a b = absurd (let same : n ≡ m = eqb-true n m b in omega (arith, same, below))
  by false false a b = refl

pub rows-push : (form : Form) (es : List Entry) (e : Entry) → rows_of form (es ++ e ∷ []) ≡ rows_of form es ++ (e.number, row_at form e) ∷ []
rows-push form [] e = refl
rows-push form (x ∷ es) e = ap (λ rs. (x.number, row_at form x) ∷ rs) (rows-push form es e)

insert_last : (form : Form) (es : List Entry) (n : ℕ) (row : Row) → AllBelow n es → insert_entry nat_cmp (rows_of form es) n row ≡ rows_of form es ++ (n, row) ∷ []
insert_last form [] n row below = refl
insert_last form (e ∷ es) n row below =
    ap (λ (r : Ordering). match_ordering r ((n, row) ∷ rows_of form (e ∷ es)) ((e.number, row) ∷ rows_of form es) ((e.number, row_at form e) ∷ insert_entry nat_cmp (rows_of form es) n row)) (above_front n e.number below.0)
    ∙ ap (λ rs. (e.number, row_at form e) ∷ rs) (insert_last form es n row below.1)

pub rows-added : (form : Form) (es : List Entry) (e : Entry) → AllBelow e.number es → with_row (rows_of form es) (row_at form e) ≡ rows_of form (es ++ e ∷ [])
rows-added form es e below =
    ap (λ n. insert_entry nat_cmp (rows_of form es) n (row_at form e)) (row-number form e.number e.text e.moment)
    ∙ insert_last form es e.number (row_at form e) below
    ∙ sym (rows-push form es e)

-- One message less, where numbers rise.
abbrev pub Ascends : ℕ → List Entry → Type 0
Ascends number [] = Unit {0}
Ascends number (e ∷ es) = (number ≤ e.number) × Ascends (e.number + 1) es

gone_step : (form : Form) (n : ℕ) (e : Entry) (es : List Entry) (t : Bool) → (e.number == n) ≡ t → (e.number ≡ n → without_number n es ≡ es) → without (rows_of form es) n ≡ rows_of form (without_number n es)
    → cond t (rows_of form es) ((e.number, row_at form e) ∷ without (rows_of form es) n) ≡ rows_of form (if t then without_number n es else e ∷ without_number n es)
gone_step form n e es true test none ih = ap (rows_of form) (sym (none (eqb-true e.number n test)))
gone_step form n e es false test none ih = ap (λ rs. (e.number, row_at form e) ∷ rs) ih

other_front : (n m : ℕ) → n < m → (m == n) ≡ false
other_front n m less = by (m == n) refl where
  by : (t : Bool) → (m == n) ≡ t → t ≡ false
  by true e = absurd (let same : m ≡ n = eqb-true m n e in omega (arith, same, less))
  by false e = refl

pub none-below : (es : List Entry) (n number : ℕ) → Ascends number es → n < number → without_number n es ≡ es
none-below [] n number ascends less = refl
none-below (e ∷ es) n number ascends less =
    let above : number ≤ e.number = ascends.0 in
    ap (λ (t : Bool). if t then without_number n es else e ∷ without_number n es) (other_front n e.number (omega (arith, above, less)))
    ∙ ap (λ (l : List Entry). e ∷ l) (none-below es n (e.number + 1) ascends.1 (omega (arith, above, less)))

pub rows-taken : (form : Form) (es : List Entry) (number n : ℕ) → Ascends number es → without (rows_of form es) n ≡ rows_of form (without_number n es)
rows-taken form [] number n ascends = refl
rows-taken form (e ∷ es) number n ascends =
    ap (λ (t : Bool). cond t (rows_of form es) ((e.number, row_at form e) ∷ without (rows_of form es) n)) (at_is n e.number)
    ∙ gone_step form n e es (e.number == n) refl (λ same. none-below es n (e.number + 1) ascends.1 (omega (arith, same))) (rows-taken form es (e.number + 1) n ascends.1)
