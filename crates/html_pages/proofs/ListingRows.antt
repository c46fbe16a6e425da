-- The rows that a listing shows, and those after them.
use Rattle.std.proofs.Common.{◌≡◌, ℕ, ◌≤◌, inl, inr, List, ◌++◌, length, take, drop, sym, ap, ◌∙◌, arith, min, append_assoc}
use Rattle.std.specs.Borrow.{Bor}
use Rattle.std.specs.List.{flat_map}
use Rattle.std.specs.Prelude.{map, codes}
use Rattle.std.proofs.lemmas.Bool.{cases_order}
use Rattle.std.proofs.lemmas.List.{take-map, drop-map, take_all, drop_all, length-map}
use Rattle.std.proofs.lemmas.List.Folds.{flat_map-map}
use Rattle.mail_forms.specs.declared.row.Row.{Row}
use Rattle.html_pages.specs.Lines.{row_line, older_link, older_found}
use Rattle.html_pages.specs.Pages.{page_of, listing_of, search_of}

least_left : (a b : ℕ) → a ≤ b → min a b ≡ a
least_left a b h = grind (arith)

least_right : (a b : ℕ) → b ≤ a → min a b ≡ b
least_right a b h = grind (arith)

pub take_least : {A : Type 0} (n : ℕ) (xs : List A) → take (min (length xs) n) xs ≡ take n xs
take_least {A} n xs =
    let short : length xs ≤ n → take (min (length xs) n) xs ≡ take n xs = λ h. ap (λ m. take m xs) (least_left (length xs) n h) ∙ take_all (length xs) xs (omega arith) ∙ sym (take_all n xs h) in
    elim (cases_order (length xs) n) [
      | inl same ↦ short (omega arith)
      | inr (inl less) ↦ short (omega arith)
      | inr (inr more) ↦ ap (λ m. take m xs) (least_right (length xs) n (omega arith))
    ]

pub drop_least : {A : Type 0} (n : ℕ) (xs : List A) → drop (min (length xs) n) xs ≡ drop n xs
drop_least {A} n xs =
    let short : length xs ≤ n → drop (min (length xs) n) xs ≡ drop n xs = λ h. ap (λ m. drop m xs) (least_left (length xs) n h) ∙ drop_all (length xs) xs (omega arith) ∙ sym (drop_all n xs h) in
    elim (cases_order (length xs) n) [
      | inl same ↦ short (omega arith)
      | inr (inl less) ↦ short (omega arith)
      | inr (inr more) ↦ ap (λ m. drop m xs) (least_right (length xs) n (omega arith))
    ]

abbrev now_of : Bor Row → Row
now_of row = row.now

-- The lines of the first rows.
shown_lines : (f : Row → List ℕ) (n m : ℕ) (rows shown : List (Bor Row)) → m ≡ min (length rows) n → shown ≡ take m rows
    → flat_map (λ (row : Bor Row). f row.now) shown ≡ flat_map f (take n (map now_of rows))
shown_lines f n m rows shown e taken =
    let first : shown ≡ take n rows = taken ∙ ap (λ k. take k rows) e ∙ take_least n rows in
    ap (flat_map (λ (row : Bor Row). f row.now)) first ∙ sym (flat_map-map f now_of (take n rows)) ∙ ap (flat_map f) (sym (take-map now_of n rows))

-- How many rows are after them.
older_count : (n m : ℕ) (rows older : List (Bor Row)) → m ≡ min (length rows) n → older ≡ drop m rows → length older ≡ length (drop n (map now_of rows))
older_count n m rows older e dropped =
    let last : older ≡ drop n rows = dropped ∙ ap (λ k. drop k rows) e ∙ drop_least n rows in
    ap length last ∙ sym (length-map (drop n rows) now_of) ∙ ap length (sym (drop-map now_of n rows))

-- The pieces of a page, as they were appended.
joined : (a name b lines older d : List ℕ) → ((((a ++ name) ++ b) ++ lines) ++ older) ++ d ≡ (((a ++ name) ++ b) ++ (lines ++ older)) ++ d
joined a name b lines older d = ap (λ t. t ++ d) (append_assoc ((a ++ name) ++ b) lines older)

-- The page of a listing, by its pieces.
pub listing-made : (name : List ℕ) (rows shown older : List (Bor Row)) (m skip : ℕ) (made : List ℕ) → m ≡ min (length rows) 200 → shown ≡ take m rows → older ≡ drop m rows
    → made ≡ ((((codes "<html><head><title>" ++ name) ++ codes "</title></head><body><pre>") ++ flat_map (λ (row : Bor Row). row_line name row.now) shown) ++ older_link skip (length older)) ++ codes "</pre></body></html>\n"
    → made ≡ listing_of name (map (λ (row : Bor Row). row.now) rows) skip
unfolding listing_of
listing-made name rows shown older m skip made e taken dropped h =
    let lines = flat_map (λ (row : Bor Row). row_line name row.now) shown in
    let rest = older_link skip (length older) in
    h ∙ joined (codes "<html><head><title>") name (codes "</title></head><body><pre>") lines rest (codes "</pre></body></html>\n")
    ∙ ap (λ l. page_of name (l ++ rest)) (shown_lines (row_line name) 200 m rows shown e taken)
    ∙ ap (λ k. page_of name (flat_map (row_line name) (take 200 (map now_of rows)) ++ older_link skip k)) (older_count 200 m rows older e dropped)

-- The page of a search, by its pieces.
pub search-made : (name text : List ℕ) (rows shown older : List (Bor Row)) (m skip : ℕ) (made : List ℕ) → m ≡ min (length rows) 200 → shown ≡ take m rows → older ≡ drop m rows
    → made ≡ ((((codes "<html><head><title>" ++ name) ++ codes "</title></head><body><pre>") ++ flat_map (λ (row : Bor Row). row_line name row.now) shown) ++ older_found text skip (length older)) ++ codes "</pre></body></html>\n"
    → made ≡ search_of name text (map (λ (row : Bor Row). row.now) rows) skip
unfolding search_of
search-made name text rows shown older m skip made e taken dropped h =
    let lines = flat_map (λ (row : Bor Row). row_line name row.now) shown in
    let rest = older_found text skip (length older) in
    h ∙ joined (codes "<html><head><title>") name (codes "</title></head><body><pre>") lines rest (codes "</pre></body></html>\n")
    ∙ ap (λ l. page_of name (l ++ rest)) (shown_lines (row_line name) 200 m rows shown e taken)
    ∙ ap (λ k. page_of name (flat_map (row_line name) (take 200 (map now_of rows)) ++ older_found text skip k)) (older_count 200 m rows older e dropped)
