-- When a text is clean.
use Rattle.std.proofs.Common.{◌≡◌, ◌≢◌, ◌<◌, ◌≤◌, ◌-◌, ◌+◌, ℕ, zero, suc, Bool, true, false, cond, ◌&&◌, List, [], ◌∷◌, length, get_or, take, drop, refl, sym, ap, ◌∙◌, reverse, add-zero, arith, tests, rules, min}
use Rattle.std.specs.Bool.{IsTrue}
use Rattle.std.specs.List.{filter, prefix_len, suffix_len, list_all}
use Rattle.std.proofs.lemmas.List.{take_all, length-take, length-drop, length-reverse, get_or-drop, get_or-take, get_or-reverse}
use Rattle.std.proofs.lemmas.List.Sums.{prefix_len_is, prefix_len_stops, suffix_len_is, suffix_len-take_yes, length-filter, count_by-le-length}
use Rattle.std.proofs.lemmas.Bool.{and_parts}
use Rattle.git_objects.specs.CleanText.{is_clean_byte, is_space, trimmed, clean, IsCleanText}

-- A filter that keeps all keeps the list.
pub filter-all : (p : ℕ → Bool) (xs : List ℕ) → list_all p xs ≡ true → filter p xs ≡ xs
filter-all p [] h = refl
filter-all p (x ∷ xs) h =
    let parts = and_parts (p x) (list_all p xs) h in
    rw parts.0 (ap (λ l. x ∷ l) (filter-all p xs parts.1))

-- A filter makes no list longer.
length-filter_le : (p : ℕ → Bool) (xs : List ℕ) → length (filter p xs) ≤ length xs
length-filter_le p xs = omega (arith, length-filter p xs, count_by-le-length p xs)

-- The step of the next lemma, by the result of the test.
all-filter_at : (p : ℕ → Bool) (x : ℕ) (xs : List ℕ) (b : Bool) → length (filter p xs) ≤ length xs → (length xs ≤ length (filter p xs) → list_all p xs ≡ true)
    → suc (length xs) ≤ length (cond b (x ∷ filter p xs) (filter p xs)) → (b && list_all p xs) ≡ true
all-filter_at p x xs true short rest h = rest (omega arith)
all-filter_at p x xs false short rest h = absurd (omega arith)

-- A filter that drops nothing keeps all.
pub all-filter : (p : ℕ → Bool) (xs : List ℕ) → length xs ≤ length (filter p xs) → list_all p xs ≡ true
all-filter p [] h = refl
all-filter p (x ∷ xs) h = all-filter_at p x xs (p x) (length-filter_le p xs) (all-filter p xs) h

-- A byte that is no space fails the test.
no_space : (c : ℕ) → c ≢ 32 → is_space c ≡ false
no_space c h = search (rules, tests)

-- A text without spaces at its ends isn't changed by trimming.
trimmed-ends : (text : List ℕ) → get_or text 0 0 ≢ 32 → get_or text (length text - 1) 0 ≢ 32 → trimmed text ≡ text
trimmed-ends text first last =
    let front : prefix_len is_space text ≡ 0 = prefix_len_is is_space text 0 0 (omega arith) (λ k below. absurd (omega arith)) (λ some. no_space (get_or text 0 0) first) in
    let back : suffix_len is_space text ≡ length text - length text =
    suffix_len_is is_space text (length text) 0 (omega arith) (λ k low high. absurd (omega arith)) (λ some. no_space (get_or text (length text - 1) 0) last) in
    let whole : length text - (length text - length text) ≡ length text = omega arith in
    rw (front, back, whole) (take_all (length text) text (omega arith))

-- A text of clean bytes that neither starts nor ends with a space is clean.
pub IsCleanText-from : (text : List ℕ) → list_all is_clean_byte text ≡ true → get_or text 0 0 ≢ 32 → get_or text (length text - 1) 0 ≢ 32 → IsCleanText text
IsCleanText-from text all first last = record { same = rw (filter-all is_clean_byte text all) (trimmed-ends text first last) }

-- A text that trimming doesn't shorten has no space at its ends.
trimmed-whole : (text : List ℕ) → 0 < length text → length text ≤ length (trimmed text) → (prefix_len is_space text ≡ 0) × (suffix_len is_space text ≡ 0)
trimmed-whole text some long =
    let n = prefix_len is_space text in
    let m = suffix_len is_space text in
    let len : length (trimmed text) ≡ min (length text - m) (length text) - n = length-drop n (take (length text - m) text) ∙ ap (λ l. l - n) (length-take (length text - m) text) in
    (omega arith, omega arith)

-- Trimming makes no text longer.
trimmed-le : (text : List ℕ) → length (trimmed text) ≤ length text
trimmed-le text =
    let n = prefix_len is_space text in
    let m = suffix_len is_space text in
    let len : length (trimmed text) ≡ min (length text - m) (length text) - n = length-drop n (take (length text - m) text) ∙ ap (λ l. l - n) (length-take (length text - m) text) in
    omega arith

-- A text without a space at its start.
no_space-first : (text : List ℕ) → 0 < length text → prefix_len is_space text ≡ 0 → get_or text 0 0 ≢ 32
no_space-first [] some none e = omega arith
no_space-first (c ∷ text) some none e =
    let space : is_space c ≡ true = search (rules, tests) in
    let long : prefix_len is_space (c ∷ text) ≡ 1 + prefix_len is_space text = rw space refl in
    omega arith

-- A text without a space at its end.
no_space-last : (text : List ℕ) → 0 < length text → suffix_len is_space text ≡ 0 → get_or text (length text - 1) 0 ≢ 32
no_space-last text some none e =
    let space : is_space (get_or text (length text - 1) 0) ≡ true = search (rules, tests) in
    let long : suffix_len is_space (take (length text) text) ≡ 1 + suffix_len is_space (take (length text - 1) text) = suffix_len-take_yes is_space text (length text) 0 some (omega arith) space in
    let whole : take (length text) text ≡ text = take_all (length text) text (omega arith) in
    omega (arith, long, ap (suffix_len is_space) whole)

-- A clean text has only clean bytes, and no space at its ends.
pub IsCleanText-parts : (text : List ℕ) → 0 < length text → IsCleanText text
    → (list_all is_clean_byte text ≡ true) × (get_or text 0 0 ≢ 32) × (get_or text (length text - 1) 0 ≢ 32)
IsCleanText-parts text some h =
    let long : length text ≤ length (filter is_clean_byte text) = omega (arith, ap length h.same, trimmed-le (filter is_clean_byte text)) in
    let all : list_all is_clean_byte text ≡ true = all-filter is_clean_byte text long in
    let same : trimmed text ≡ text = ap trimmed (sym (filter-all is_clean_byte text all)) ∙ h.same in
    let ends = trimmed-whole text some (omega (arith, ap length same)) in
    (all, no_space-first text some ends.0, no_space-last text some ends.1)

-- A text that starts with a space is not clean.
pub unclean-first : (text : List ℕ) → 0 < length text → get_or text 0 0 ≡ 32 → (IsTrue false → IsCleanText text) × (IsCleanText text → IsTrue false)
unclean-first text some e = (λ t. cc, λ h. absurd ((IsCleanText-parts text some h).1 e))

-- A text that ends with a space is not clean.
pub unclean-last : (text : List ℕ) → 0 < length text → get_or text (length text - 1) 0 ≡ 32 → (IsTrue false → IsCleanText text) × (IsCleanText text → IsTrue false)
unclean-last text some e = (λ t. cc, λ h. absurd ((IsCleanText-parts text some h).2 e))

-- Any other text is clean if its bytes are.
pub clean-by_bytes : (text : List ℕ) (all : Bool) → 0 < length text → get_or text 0 0 ≢ 32 → get_or text (length text - 1) 0 ≢ 32
    → all ≡ list_all is_clean_byte text → (IsTrue all → IsCleanText text) × (IsCleanText text → IsTrue all)
clean-by_bytes text all some first last e = (λ t. IsCleanText-from text (sym e ∙ t) first last, λ h. e ∙ (IsCleanText-parts text some h).0)

-- Each byte of a part passes a test that each byte of the whole passes.
all-take : (p : ℕ → Bool) (n : ℕ) (xs : List ℕ) → list_all p xs ≡ true → list_all p (take n xs) ≡ true
all-take p zero xs h = refl
all-take p (suc n) [] h = refl
all-take p (suc n) (x ∷ xs) h =
    let parts = and_parts (p x) (list_all p xs) h in
    rw parts.0 (all-take p n xs parts.1)

all-drop : (p : ℕ → Bool) (n : ℕ) (xs : List ℕ) → list_all p xs ≡ true → list_all p (drop n xs) ≡ true
all-drop p zero xs h = h
all-drop p (suc n) [] h = refl
all-drop p (suc n) (x ∷ xs) h = all-drop p n xs (and_parts (p x) (list_all p xs) h).1

-- The step of the next lemma, by the result of the test.
all-of_filter_at : (p : ℕ → Bool) (x : ℕ) (b : Bool) (xs : List ℕ) → p x ≡ b → list_all p (filter p xs) ≡ true → list_all p (cond b (x ∷ filter p xs) (filter p xs)) ≡ true
all-of_filter_at p x true xs e h = rw e h
all-of_filter_at p x false xs e h = h

-- Each byte that a filter keeps passes its test.
all-of_filter : (p : ℕ → Bool) (xs : List ℕ) → list_all p (filter p xs) ≡ true
all-of_filter p [] = refl
all-of_filter p (x ∷ xs) = all-of_filter_at p x (p x) xs refl (all-of_filter p xs)

-- The first byte of a trimmed text is no space.
trimmed-first : (text : List ℕ) → 0 < length (trimmed text) → get_or (trimmed text) 0 0 ≢ 32
trimmed-first text some e =
    let n = prefix_len is_space text in
    let m = length text - suffix_len is_space text in
    let len : length (trimmed text) ≡ min m (length text) - n = length-drop n (take m text) ∙ ap (λ l. l - n) (length-take m text) in
    let at : get_or (trimmed text) 0 0 ≡ get_or text n 0 =
    get_or-drop n (take m text) 0 0 ∙ ap (λ k. get_or (take m text) k 0) (add-zero n) ∙ get_or-take m text n 0 (omega arith) in
    let other : is_space (get_or text n 0) ≡ false = prefix_len_stops is_space text 0 (omega arith) in
    let space : is_space (get_or text n 0) ≡ true = ap is_space (sym at ∙ e) in
    cc

-- The last byte of a trimmed text is no space.
trimmed-last : (text : List ℕ) → 0 < length (trimmed text) → get_or (trimmed text) (length (trimmed text) - 1) 0 ≢ 32
trimmed-last text some e =
    let n = prefix_len is_space text in
    let s = suffix_len is_space text in
    let m = length text - s in
    let len : length (trimmed text) ≡ min m (length text) - n = length-drop n (take m text) ∙ ap (λ l. l - n) (length-take m text) in
    let place : n + (length (trimmed text) - 1) ≡ m - 1 = omega arith in
    let at : get_or (trimmed text) (length (trimmed text) - 1) 0 ≡ get_or text (m - 1) 0 =
    get_or-drop n (take m text) (length (trimmed text) - 1) 0 ∙ ap (λ k. get_or (take m text) k 0) place ∙ get_or-take m text (m - 1) 0 (omega arith) in
    let back : get_or (reverse text) s 0 ≡ get_or text (length text - 1 - s) 0 = get_or-reverse text s 0 (omega arith) in
    let same : length text - 1 - s ≡ m - 1 = omega arith in
    let short : s < length (reverse text) = omega (arith, length-reverse text) in
    let other : is_space (get_or (reverse text) s 0) ≡ false = prefix_len_stops is_space (reverse text) 0 short in
    let space : is_space (get_or (reverse text) s 0) ≡ true = ap is_space (back ∙ ap (λ k. get_or text k 0) same ∙ sym at ∙ e) in
    cc

-- A text of clean bytes without a space at its ends, if it has any byte, is clean.
IsCleanText-ends : (text : List ℕ) → list_all is_clean_byte text ≡ true → (0 < length text → get_or text 0 0 ≢ 32) → (0 < length text → get_or text (length text - 1) 0 ≢ 32) → IsCleanText text
IsCleanText-ends [] all first last = record { same = refl }
IsCleanText-ends (c ∷ text) all first last = IsCleanText-from (c ∷ text) all (first (omega arith)) (last (omega arith))

-- Cleaning makes a text clean.
pub IsCleanText-clean : (text : List ℕ) → IsCleanText (clean text)
IsCleanText-clean text =
    let kept : List ℕ = filter is_clean_byte text in
    let all : list_all is_clean_byte (clean text) ≡ true =
    all-drop is_clean_byte (prefix_len is_space kept) (take (length kept - suffix_len is_space kept) kept)
    (all-take is_clean_byte (length kept - suffix_len is_space kept) kept (all-of_filter is_clean_byte text)) in
    IsCleanText-ends (clean text) all (trimmed-first kept) (trimmed-last kept)
