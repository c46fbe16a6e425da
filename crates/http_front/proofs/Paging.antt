-- The rows that a page of the listing needs say as much as all rows.
use Rattle.std.proofs.Common.{◌≡◌, ◌-◌, ◌==◌, min, ℕ, zero, suc, Bool, true, false, List, [], ◌∷◌, ◌++◌, reverse, take, drop, length, Option, Some, None, is_some, refl, sym, ap, subst, ◌∙◌, arith, if◌then◌else◌}
use Rattle.std.specs.List.{All, flat_map}
use Rattle.std.proofs.lemmas.List.{length-take, length-drop, reverse-append}
use Rattle.std.proofs.lemmas.List.Elements.{All-nil, All-cons, All-head, All-tail, All-weaker, All-drop, All-map, All-push}
use Rattle.std.proofs.lemmas.Bool.Decides.{nat_tests}
use Rattle.std.proofs.lemmas.Map.Views.{All-insert_key}
use Rattle.arch_base.specs.declared.ids.Form.{Form}
use Rattle.arch_model.specs.Archives.{Archive, Entry, live}
use Rattle.arch_model.specs.Listings.{row_at, row_in, dated, date_cmp, by_date, number_beside, listing}
use Rattle.html_pages.specs.Lines.{row_line, rows_shown, older_link}
use Rattle.html_pages.specs.Pages.{listing_of, page_of}
use Rattle.http_heads.specs.declared.reply.Body.TheVariants.{Page}
use Rattle.mail_forms.specs.declared.row.Row.{Row}
use Rattle.http_front.specs.Views.{one_row, row_at as row_shown, rows_at}
use Rattle.http_front.specs.Asking.{Gives, rows_needed}
use Rattle.http_front.specs.Paging.{ListingIsWhole}

-- A number has one row.
abbrev HasRow : Form → List Entry → ℕ → Type 0
HasRow form entries n = is_some (row_in form entries n) ≡ true

own-row : (form : Form) (e : Entry) (es : List Entry) (n : ℕ) → e.number ≡ n → is_some (row_in form (e ∷ es) n) ≡ true
own-row form e es n same = let hit : (e.number == n) ≡ true = grind (arith, nat_tests, same) in ap (λ (t : Bool). is_some (if t then Some (row_at form e) else row_in form es n)) hit

later : (form : Form) (e : Entry) (es : List Entry) (n : ℕ) → is_some (row_in form es n) ≡ true → is_some (row_in form (e ∷ es) n) ≡ true
later form e es n row = by (e.number == n)
  where
    by : (t : Bool) → is_some (if t then Some (row_at form e) else row_in form es n) ≡ true
    by true = refl
    by false = row

-- Each message of some has a row among them.
rows-there : (form : Form) (entries : List Entry) → All (λ (e : Entry). is_some (row_in form entries e.number) ≡ true) entries
rows-there form [] = All-nil (λ (e : Entry). is_some (row_in form [] e.number) ≡ true)
rows-there form (e ∷ es) =
    All-cons (λ (x : Entry). is_some (row_in form (e ∷ es) x.number) ≡ true) e es (own-row form e es e.number refl)
    (All-weaker (λ (x : Entry). is_some (row_in form es x.number) ≡ true) (λ (x : Entry). is_some (row_in form (e ∷ es) x.number) ≡ true) (λ x row. later form e es x.number row) es (rows-there form es))

-- What holds of the number of each message holds of each number by date.
dates-all : (P : ℕ → Type 0) (es : List Entry) → All (λ (e : Entry). P e.number) es → All (λ (p : ℕ × ℕ). P p.1) (by_date es)
dates-all P [] all = All-nil (λ (p : ℕ × ℕ). P p.1)
dates-all P (e ∷ es) all =
    All-insert_key date_cmp (dated e) (λ (p : ℕ × ℕ). P p.1) (by_date es) (dates-all P es (All-tail (λ (x : Entry). P x.number) e es all)) (All-head (λ (x : Entry). P x.number) e es all)

reversed-all : (P : ℕ × ℕ → Type 0) (xs : List (ℕ × ℕ)) → All P xs → All P (reverse xs)
reversed-all P [] all = All-nil P
reversed-all P (x ∷ xs) all =
    subst (λ (ys : List (ℕ × ℕ)). All P ys) (sym (reverse-append (x ∷ []) xs)) (All-push P (reverse xs) x (reversed-all P xs (All-tail P x xs all)) (All-head P x xs all))

listed-all : (P : ℕ → Type 0) (es : List Entry) → All (λ (e : Entry). P e.number) es → All P (listing es)
unfolding listing
listed-all P es all = All-map P number_beside (reverse (by_date es)) (reversed-all (λ (p : ℕ × ℕ). P p.1) (by_date es) (dates-all P es all))

-- Rows one after another.
row-one : (o : Option Row) → is_some o ≡ true → (row : Row) × (one_row o ≡ row ∷ [])
row-one None there = absurd (cc there)
row-one (Some row) there = (row, refl)

row-step : (n : ℕ) (front : List Row) (row : Row) (rest more : List Row) → front ≡ row ∷ [] → rest ≡ take n more → front ++ rest ≡ take (suc n) (front ++ more)
row-step n front row rest more is same =
    subst (λ (f : List Row). f ++ rest ≡ take (suc n) (f ++ more)) (sym is) (ap (λ (rows : List Row). row ∷ rows) same)

-- The rows of the first numbers are the first rows.
rows-taken : (a : Archive) (ns : List ℕ) (n : ℕ) → All (HasRow a.config.form (live a.entries)) ns → rows_at a (take n ns) ≡ take n (rows_at a ns)
rows-taken a ns zero all = refl
rows-taken a [] (suc n) all = refl
rows-taken a (m ∷ ms) (suc n) all =
    let one = row-one (row_in a.config.form (live a.entries) m) (All-head (HasRow a.config.form (live a.entries)) m ms all) in
    row-step n (row_shown a m) one.0 (rows_at a (take n ms)) (rows_at a ms) one.1 (rows-taken a ms n (All-tail (HasRow a.config.form (live a.entries)) m ms all))

-- One row more than are shown say as much as all.
taken-twice : (n : ℕ) (rows : List Row) → take n (take (suc n) rows) ≡ take n rows
taken-twice zero rows = refl
taken-twice (suc n) [] = refl
taken-twice (suc n) (row ∷ rows) = ap (λ (rs : List Row). row ∷ rs) (taken-twice n rows)

zero-same : (m n : ℕ) → (m ≡ 0 → n ≡ 0) → (n ≡ 0 → m ≡ 0) → (m == 0) ≡ (n == 0)
zero-same zero zero to from = refl
zero-same zero (suc n) to from = absurd (cc (to refl))
zero-same (suc m) zero to from = absurd (cc (from refl))
zero-same (suc m) (suc n) to from =
    let left : (suc m == 0) ≡ false = grind (arith, nat_tests) in
    let right : (suc n == 0) ≡ false = grind (arith, nat_tests) in
    left ∙ sym right

chosen : (link : List ℕ) (s t : Bool) → s ≡ t → (if s then [] else link) ≡ (if t then [] else link)
chosen link s t same = ap (λ (b : Bool). if b then [] else link) same

older-same : (skip m n : ℕ) → (m ≡ 0 → n ≡ 0) → (n ≡ 0 → m ≡ 0) → older_link skip m ≡ older_link skip n
older-same skip m n to from = chosen _ (m == 0) (n == 0) (zero-same m n to from)

page-cut : (name : List ℕ) (rows : List Row) (skip : ℕ) → listing_of name (take rows_needed rows) skip ≡ listing_of name rows skip
unfolding listing_of
page-cut name rows skip =
    let left : length (drop rows_shown (take rows_needed rows)) ≡ length (take rows_needed rows) - rows_shown = length-drop rows_shown (take rows_needed rows) in
    let kept : length (take rows_needed rows) ≡ min rows_needed (length rows) = length-take rows_needed rows in
    let all : length (drop rows_shown rows) ≡ length rows - rows_shown = length-drop rows_shown rows in
    let first = ap (flat_map (row_line name)) (taken-twice rows_shown rows) in
    let more = older-same skip (length (drop rows_shown (take rows_needed rows))) (length (drop rows_shown rows)) (λ none. omega (arith, none)) (λ none. omega (arith, none)) in
    ap (λ (lines : List ℕ). page_of name (lines ++ older_link skip (length (drop rows_shown (take rows_needed rows))))) first
    ∙ ap (λ (link : List ℕ). page_of name (flat_map (row_line name) (take rows_shown rows) ++ link)) more

pub listing-whole : ListingIsWhole
listing-whole a skip =
    let numbers = drop skip (listing (live a.entries)) in
    let has = HasRow a.config.form (live a.entries) in
    let rows = rows-taken a numbers rows_needed (All-drop has skip (listing (live a.entries)) (listed-all has (live a.entries) (rows-there a.config.form (live a.entries)))) in
    ap (Gives Page) (ap (λ (rs : List Row). listing_of a.config.name rs skip) rows ∙ page-cut a.config.name (rows_at a numbers) skip)
