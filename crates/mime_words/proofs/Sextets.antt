-- The symbols of a base64 text.
use Rattle.std.proofs.Common.{◌≡◌, ◌<◌, ◌+◌, ◌-◌, ◌*◌, ◌/◌, ◌%◌, ◌∙◌, ℕ, zero, suc, Bool, true, false, cond, subst, ◌==◌, List, [], ◌∷◌, ◌++◌, length, take, drop, get_or, Option, Some, None, is_some, refl, sym, ap, append_assoc, arith, length-drop}
use Rattle.std.specs.List.{cons_option, list_all}
use Rattle.std.proofs.lemmas.Bool.{and_parts, ne_eqb}
use Rattle.std.proofs.lemmas.Bool.Decides.{nat_tests}
use Rattle.std.proofs.lemmas.List.{drop_more, take-append-drop, length-take-le}
use Rattle.mime_words.specs.Base64.{six_bits, is_symbol, sextets, packed}

not_end : (b : ℕ) → is_symbol b ≡ true → (b == 61) ≡ false
not_end b h = grind (arith, nat_tests)

onto_front : (o : Option ℕ) (xs ys : List ℕ) → cons_option o (xs ++ ys) ≡ cons_option o xs ++ ys
onto_front None xs ys = refl
onto_front (Some v) xs ys = refl

-- Symbols before other ones.
pub sextets-append : (xs ys : List ℕ) → list_all is_symbol xs ≡ true → sextets (xs ++ ys) ≡ sextets xs ++ sextets ys
sextets-append [] ys h = refl
sextets-append (x ∷ xs) ys h =
    let parts = and_parts (is_symbol x) (list_all is_symbol xs) h in
    let plain : (x == 61) ≡ false = not_end x parts.0 in
    rw (plain, sextets-append xs ys parts.1) (onto_front (six_bits x) (sextets xs) (sextets ys))

pub all-append : (xs ys : List ℕ) → list_all is_symbol xs ≡ true → list_all is_symbol ys ≡ true → list_all is_symbol (xs ++ ys) ≡ true
all-append [] ys h k = k
all-append (x ∷ xs) ys h k =
    let parts = and_parts (is_symbol x) (list_all is_symbol xs) h in
    rw (parts.0, all-append xs ys parts.1 k) refl

all-take : (n : ℕ) (xs : List ℕ) → list_all is_symbol xs ≡ true → list_all is_symbol (take n xs) ≡ true
all-take zero xs h = refl
all-take (suc n) [] h = refl
all-take (suc n) (x ∷ xs) h =
    let parts = and_parts (is_symbol x) (list_all is_symbol xs) h in
    rw (parts.0, all-take n xs parts.1) refl

all-drop : (n : ℕ) (xs : List ℕ) → list_all is_symbol xs ≡ true → list_all is_symbol (drop n xs) ≡ true
all-drop zero xs h = h
all-drop (suc n) [] h = refl
all-drop (suc n) (x ∷ xs) h = all-drop n xs (and_parts (is_symbol x) (list_all is_symbol xs) h).1

length-sextets : (xs : List ℕ) → list_all is_symbol xs ≡ true → length (sextets xs) ≡ length xs
length-sextets [] h = refl
length-sextets (x ∷ xs) h =
    let parts = and_parts (is_symbol x) (list_all is_symbol xs) h in
    let plain : (x == 61) ≡ false = not_end x parts.0 in
    rw plain (by (six_bits x) parts.0 (length-sextets xs parts.1))
  where
    by : (o : Option ℕ) → is_some o ≡ true → length (sextets xs) ≡ length xs → length (cons_option o (sextets xs)) ≡ suc (length xs)
    by None e k = cc
    by (Some v) e k = ap suc k

-- What is read so far, and what is left.
pub record HasRead (made text : List ℕ) (i : ℕ) : Type 0 where
  pub value : sextets made ++ sextets (drop i text) ≡ sextets text
  pub symbols : list_all is_symbol made ≡ true

read-symbol : (symbols text : List ℕ) (i : ℕ) → HasRead symbols text i → i < length text → (get_or text i 0 == 61) ≡ false → is_symbol (get_or text i 0) ≡ true
    → HasRead (symbols ++ get_or text i 0 ∷ []) text (i + 1)
read-symbol symbols text i h l plain is =
    let b = get_or text i 0 in
    let one : list_all is_symbol (b ∷ []) ≡ true = rw is refl in
    let rest : sextets (drop i text) ≡ sextets (b ∷ []) ++ sextets (drop (i + 1) text) = ap sextets (drop_more text i 0 l) ∙ sextets-append (b ∷ []) (drop (i + 1) text) one in
    record {
      value = ap (λ xs. xs ++ sextets (drop (i + 1) text)) (sextets-append symbols (b ∷ []) h.symbols)
          ∙ append_assoc (sextets symbols) (sextets (b ∷ [])) (sextets (drop (i + 1) text)) ∙ ap (λ xs. sextets symbols ++ xs) (sym rest) ∙ h.value;
      symbols = all-append symbols (b ∷ []) h.symbols one;
    }

read-other : (symbols text : List ℕ) (i : ℕ) → HasRead symbols text i → i < length text → (get_or text i 0 == 61) ≡ false → is_symbol (get_or text i 0) ≡ false
    → HasRead symbols text (i + 1)
read-other symbols text i h l plain is =
    let b = get_or text i 0 in
    let rest : sextets (drop i text) ≡ sextets (drop (i + 1) text) =
    ap sextets (drop_more text i 0 l) ∙ rw plain (by (six_bits b) is) in
    record { value = ap (λ xs. sextets symbols ++ xs) (sym rest) ∙ h.value; symbols = h.symbols }
  where
    by : (o : Option ℕ) → is_some o ≡ false → cons_option o (sextets (drop (i + 1) text)) ≡ sextets (drop (i + 1) text)
    by None e = refl
    by (Some v) e = cc

pub read-more : (old new text : List ℕ) (i : ℕ) → HasRead old text i → i < length text → (get_or text i 0 ≡ 61 → ⊥)
    → new ≡ cond (is_symbol (get_or text i 0)) (old ++ get_or text i 0 ∷ []) old → HasRead new text (i + 1)
read-more old new text i h l other e =
    let plain : (get_or text i 0 == 61) ≡ false = ne_eqb (get_or text i 0) 61 other in
    subst (λ (made : List ℕ). HasRead made text (i + 1)) (sym e) (by plain (is_symbol (get_or text i 0)) refl)
  where
    by : (get_or text i 0 == 61) ≡ false → (t : Bool) → is_symbol (get_or text i 0) ≡ t → HasRead (cond t (old ++ get_or text i 0 ∷ []) old) text (i + 1)
    by plain true is = read-symbol old text i h l plain is
    by plain false is = read-other old text i h l plain is

-- A single group of six bits after groups of four is dropped.
packed-lone : (q : ℕ) (ys zs : List ℕ) → length ys ≡ 4 * q → length zs ≡ 1 → packed (ys ++ zs) ≡ packed ys
packed-lone zero [] [] e h = absurd (omega arith)
packed-lone zero [] (z ∷ []) e h = refl
packed-lone zero [] (z ∷ y ∷ zs) e h = absurd (omega arith)
packed-lone zero (y ∷ ys) zs e h = absurd (omega arith)
packed-lone (suc q) [] zs e h = absurd (omega arith)
packed-lone (suc q) (a ∷ []) zs e h = absurd (omega arith)
packed-lone (suc q) (a ∷ b ∷ []) zs e h = absurd (omega arith)
packed-lone (suc q) (a ∷ b ∷ c ∷ []) zs e h = absurd (omega arith)
packed-lone (suc q) (a ∷ b ∷ c ∷ d ∷ ys) zs e h =
    ap (λ xs. (4 * a + b / 16) ∷ (b % 16 * 16 + c / 4) ∷ (c % 4 * 64 + d) ∷ xs) (packed-lone q ys zs (omega arith) h)

pub lone-value : (xs : List ℕ) → list_all is_symbol xs ≡ true → length xs % 4 ≡ 1 → packed (sextets (take (length xs - 1) xs)) ≡ packed (sextets xs)
lone-value xs h e =
    let n = length xs - 1 in
    let front = take n xs in
    let back = drop n xs in
    let all = all-take n xs h in
    let len : length (sextets front) ≡ n = length-sextets front all ∙ length-take-le n xs (omega arith) in
    let one : length (sextets back) ≡ 1 = length-sextets back (all-drop n xs h) ∙ length-drop n xs ∙ omega arith in
    let four : n ≡ 4 * (n / 4) = omega arith in
    sym (packed-lone (n / 4) (sextets front) (sextets back) (len ∙ four) one) ∙ ap packed (sym (sextets-append front back all) ∙ ap sextets (take-append-drop n xs))

pub lone-symbols : (xs : List ℕ) (n : ℕ) → list_all is_symbol xs ≡ true → list_all is_symbol (take n xs) ≡ true
lone-symbols xs n h = all-take n xs h
