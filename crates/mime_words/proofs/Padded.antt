-- The symbols that encode bytes decode to these bytes.
use Rattle.std.proofs.Common.{◌≡◌, ◌<◌, ◌+◌, ◌*◌, ◌/◌, ◌%◌, ◌∙◌, ℕ, suc, zero, Bool, true, false, cond, not, ◌&&◌, ◌||◌, nat_eq, nat_le, List, [], ◌∷◌, ◌++◌, replicate, length, take, get_or, Option, Some, None, refl, ap, arith, eqb-true}
use Rattle.std.specs.List.{cons_option, filter}
use Rattle.std.proofs.lemmas.Bool.{agree_below_at}
use Rattle.base64.specs.Rfc4648.{encode_symbols, padding_len}
use Rattle.base64.specs.Engines.{standard}
use Rattle.base64.specs.GeneralPurpose.{encode_of, IsBytes}
use Rattle.mime_words.specs.Base64.{six_bits, sextets, packed, unbase64}
use Rattle.mime_words.specs.Laws.{is_base64_byte, IsPadding, LooseBase64}

-- The number is found.
abbrev is_found : Option ℕ → ℕ → Bool
is_found None i = false
is_found (Some v) i = nat_eq v i

-- The symbol at an index isn't `=`, and encodes the index.
abbrev stands_for : List ℕ → ℕ → Bool
stands_for t i = not (nat_eq (get_or t i 0) 61) && is_found (six_bits (get_or t i 0)) i

abbrev Stand : List ℕ → Type 0
Stand t = (i : ℕ) → i < 64 → stands_for t i ≡ true

read_by : (e : Bool) (found : Option ℕ) (i : ℕ) (later : List ℕ) → (not e && is_found found i) ≡ true → cond e [] (cons_option found later) ≡ i ∷ later
read_by true found i later h = cc
read_by false None i later h = cc
read_by false (Some v) i later h = ap (λ x. x ∷ later) (eqb-true v i h)

symbol : (t : List ℕ) → Stand t → (i : ℕ) (rest : List ℕ) → i < 64 → sextets (get_or t i 0 ∷ rest) ≡ i ∷ sextets rest
symbol t h i rest l = read_by (nat_eq (get_or t i 0) 61) (six_bits (get_or t i 0)) i (sextets rest) (h i l)

no_symbols : (k : ℕ) → sextets (replicate k 61) ≡ []
no_symbols zero = refl
no_symbols (suc k) = refl

-- The groups of six bits are the bytes that they were made of.
three : (a b c : ℕ) (later : List ℕ) → a < 256 → b < 256 → c < 256
    → packed ((a / 4) ∷ (a % 4 * 16 + b / 16) ∷ (b % 16 * 4 + c / 64) ∷ (c % 64) ∷ later) ≡ a ∷ b ∷ c ∷ packed later
three a b c later la lb lc =
    let x : 4 * (a / 4) + (a % 4 * 16 + b / 16) / 16 ≡ a = omega arith in
    let y : (a % 4 * 16 + b / 16) % 16 * 16 + (b % 16 * 4 + c / 64) / 4 ≡ b = omega arith in
    let z : (b % 16 * 4 + c / 64) % 4 * 64 + c % 64 ≡ c = omega arith in
    λ i. x i ∷ y i ∷ z i ∷ packed later

two : (a b : ℕ) → a < 256 → b < 256 → packed ((a / 4) ∷ (a % 4 * 16 + b / 16) ∷ (b % 16 * 4) ∷ []) ≡ a ∷ b ∷ []
two a b la lb =
    let x : 4 * (a / 4) + (a % 4 * 16 + b / 16) / 16 ≡ a = omega arith in
    let y : (a % 4 * 16 + b / 16) % 16 * 16 + (b % 16 * 4) / 4 ≡ b = omega arith in
    λ i. x i ∷ y i ∷ []

one : (a : ℕ) → a < 256 → packed ((a / 4) ∷ (a % 4 * 16) ∷ []) ≡ a ∷ []
one a la =
    let x : 4 * (a / 4) + (a % 4 * 16) / 16 ≡ a = omega arith in
    λ i. x i ∷ []

-- Whole bytes in symbols whose last bits belong to another byte.
one_of : (a b : ℕ) → a < 256 → b < 256 → packed ((a / 4) ∷ (a % 4 * 16 + b / 16) ∷ []) ≡ a ∷ []
one_of a b la lb =
    let x : 4 * (a / 4) + (a % 4 * 16 + b / 16) / 16 ≡ a = omega arith in
    λ i. x i ∷ []

two_of : (a b c : ℕ) → a < 256 → b < 256 → c < 256 → packed ((a / 4) ∷ (a % 4 * 16 + b / 16) ∷ (b % 16 * 4 + c / 64) ∷ []) ≡ a ∷ b ∷ []
two_of a b c la lb lc =
    let x : 4 * (a / 4) + (a % 4 * 16 + b / 16) / 16 ≡ a = omega arith in
    let y : (a % 4 * 16 + b / 16) % 16 * 16 + (b % 16 * 4 + c / 64) / 4 ≡ b = omega arith in
    λ i. x i ∷ y i ∷ []

onto : (t : List ℕ) → Stand t → (i : ℕ) (rest later : List ℕ) → i < 64 → sextets rest ≡ later → sextets (get_or t i 0 ∷ rest) ≡ i ∷ later
onto t h i rest later l e = symbol t h i rest l ∙ ap (λ xs. i ∷ xs) e

-- Two, three and four symbols.
two_symbols : (t : List ℕ) → Stand t → (i j : ℕ) (rest later : List ℕ) → i < 64 → j < 64 → sextets rest ≡ later
    → sextets (get_or t i 0 ∷ get_or t j 0 ∷ rest) ≡ i ∷ j ∷ later
two_symbols t h i j rest later li lj e = onto t h i (get_or t j 0 ∷ rest) (j ∷ later) li (onto t h j rest later lj e)

three_symbols : (t : List ℕ) → Stand t → (i j k : ℕ) (rest later : List ℕ) → i < 64 → j < 64 → k < 64 → sextets rest ≡ later
    → sextets (get_or t i 0 ∷ get_or t j 0 ∷ get_or t k 0 ∷ rest) ≡ i ∷ j ∷ k ∷ later
three_symbols t h i j k rest later li lj lk e =
    onto t h i (get_or t j 0 ∷ get_or t k 0 ∷ rest) (j ∷ k ∷ later) li (two_symbols t h j k rest later lj lk e)

four_symbols : (t : List ℕ) → Stand t → (i j k l : ℕ) (rest later : List ℕ) → i < 64 → j < 64 → k < 64 → l < 64 → sextets rest ≡ later
    → sextets (get_or t i 0 ∷ get_or t j 0 ∷ get_or t k 0 ∷ get_or t l 0 ∷ rest) ≡ i ∷ j ∷ k ∷ l ∷ later
four_symbols t h i j k l rest later li lj lk ll e =
    onto t h i (get_or t j 0 ∷ get_or t k 0 ∷ get_or t l 0 ∷ rest) (j ∷ k ∷ l ∷ later) li (three_symbols t h j k l rest later lj lk ll e)

-- The symbols of bytes, and any padding.
symbols : (t : List ℕ) → Stand t → (end : List ℕ) → sextets end ≡ [] → (m : List ℕ) → IsBytes m → packed (sextets (encode_symbols t m ++ end)) ≡ m
unfolding encode_symbols
symbols t h end none [] bytes = ap packed none
symbols t h end none (a ∷ []) bytes =
    let la : a < 256 = bytes 0 in
    ap packed (two_symbols t h (a / 4) (a % 4 * 16) (end) [] (omega arith) (omega arith) none) ∙ one a la
symbols t h end none (a ∷ b ∷ []) bytes =
    let la : a < 256 = bytes 0 in
    let lb : b < 256 = bytes 1 in
    ap packed (three_symbols t h (a / 4) (a % 4 * 16 + b / 16) (b % 16 * 4) (end) [] (omega arith) (omega arith) (omega arith) none)
    ∙ two a b la lb
symbols t h end none (a ∷ b ∷ c ∷ rest) bytes =
    let la : a < 256 = bytes 0 in
    let lb : b < 256 = bytes 1 in
    let lc : c < 256 = bytes 2 in
    ap packed (four_symbols t h (a / 4) (a % 4 * 16 + b / 16) (b % 16 * 4 + c / 64) (c % 64) (encode_symbols t rest ++ end)
    (sextets (encode_symbols t rest ++ end)) (omega arith) (omega arith) (omega arith) (omega arith) refl)
    ∙ three a b c (sextets (encode_symbols t rest ++ end)) la lb lc
    ∙ ap (λ xs. a ∷ b ∷ c ∷ xs) (symbols t h end none rest (λ i. bytes (suc (suc (suc i)))))

standard_stands : Stand standard.encode_table
standard_stands i l = agree_below_at (stands_for standard.encode_table) (λ _. true) 64 i refl l

pub encoded : (m : List ℕ) → IsBytes m → unbase64 (encode_of standard m) ≡ m
unfolding unbase64
encoded m bytes = symbols standard.encode_table standard_stands (replicate (padding_len (length m)) 61) (no_symbols (padding_len (length m))) m bytes

-- The first symbols of bytes and more bytes.
cut : (t : List ℕ) → Stand t → (end : List ℕ) → sextets end ≡ [] → (m more : List ℕ) (n : ℕ) → IsBytes (m ++ more) → 6 * n / 8 ≡ length m
    → packed (sextets (take n (encode_symbols t (m ++ more)) ++ end)) ≡ m
unfolding encode_symbols
cut t h end none [] more zero bytes w = ap packed none
cut t h end none [] [] (suc zero) bytes w = ap packed none
cut t h end none [] (a ∷ []) (suc zero) bytes w =
    let la : a < 256 = bytes 0 in
    ap packed (onto t h (a / 4) end [] (omega arith) none)
cut t h end none [] (a ∷ b ∷ []) (suc zero) bytes w =
    let la : a < 256 = bytes 0 in
    ap packed (onto t h (a / 4) end [] (omega arith) none)
cut t h end none [] (a ∷ b ∷ c ∷ more) (suc zero) bytes w =
    let la : a < 256 = bytes 0 in
    ap packed (onto t h (a / 4) end [] (omega arith) none)
cut t h end none [] more (suc (suc n)) bytes w = absurd (omega arith)
cut t h end none (a ∷ []) more zero bytes w = absurd (omega arith)
cut t h end none (a ∷ []) more (suc zero) bytes w = absurd (omega arith)
cut t h end none (a ∷ []) [] (suc (suc zero)) bytes w =
    let la : a < 256 = bytes 0 in
    ap packed (two_symbols t h (a / 4) (a % 4 * 16) end [] (omega arith) (omega arith) none) ∙ one a la
cut t h end none (a ∷ []) (b ∷ []) (suc (suc zero)) bytes w =
    let la : a < 256 = bytes 0 in
    let lb : b < 256 = bytes 1 in
    ap packed (two_symbols t h (a / 4) (a % 4 * 16 + b / 16) end [] (omega arith) (omega arith) none) ∙ one_of a b la lb
cut t h end none (a ∷ []) (b ∷ c ∷ more) (suc (suc zero)) bytes w =
    let la : a < 256 = bytes 0 in
    let lb : b < 256 = bytes 1 in
    ap packed (two_symbols t h (a / 4) (a % 4 * 16 + b / 16) end [] (omega arith) (omega arith) none) ∙ one_of a b la lb
cut t h end none (a ∷ []) more (suc (suc (suc n))) bytes w = absurd (omega arith)
cut t h end none (a ∷ b ∷ []) more zero bytes w = absurd (omega arith)
cut t h end none (a ∷ b ∷ []) more (suc zero) bytes w = absurd (omega arith)
cut t h end none (a ∷ b ∷ []) more (suc (suc zero)) bytes w = absurd (omega arith)
cut t h end none (a ∷ b ∷ []) [] (suc (suc (suc zero))) bytes w =
    let la : a < 256 = bytes 0 in
    let lb : b < 256 = bytes 1 in
    ap packed (three_symbols t h (a / 4) (a % 4 * 16 + b / 16) (b % 16 * 4) end [] (omega arith) (omega arith) (omega arith) none) ∙ two a b la lb
cut t h end none (a ∷ b ∷ []) (c ∷ more) (suc (suc (suc zero))) bytes w =
    let la : a < 256 = bytes 0 in
    let lb : b < 256 = bytes 1 in
    let lc : c < 256 = bytes 2 in
    ap packed (three_symbols t h (a / 4) (a % 4 * 16 + b / 16) (b % 16 * 4 + c / 64) end [] (omega arith) (omega arith) (omega arith) none)
    ∙ two_of a b c la lb lc
cut t h end none (a ∷ b ∷ []) more (suc (suc (suc (suc n)))) bytes w = absurd (omega arith)
cut t h end none (a ∷ b ∷ c ∷ m) more zero bytes w = absurd (omega arith)
cut t h end none (a ∷ b ∷ c ∷ m) more (suc zero) bytes w = absurd (omega arith)
cut t h end none (a ∷ b ∷ c ∷ m) more (suc (suc zero)) bytes w = absurd (omega arith)
cut t h end none (a ∷ b ∷ c ∷ m) more (suc (suc (suc zero))) bytes w = absurd (omega arith)
cut t h end none (a ∷ b ∷ c ∷ m) more (suc (suc (suc (suc n)))) bytes w =
    let la : a < 256 = bytes 0 in
    let lb : b < 256 = bytes 1 in
    let lc : c < 256 = bytes 2 in
    let later = take n (encode_symbols t (m ++ more)) ++ end in
    let fewer : 6 * n / 8 ≡ length m = omega arith in
    ap packed (four_symbols t h (a / 4) (a % 4 * 16 + b / 16) (b % 16 * 4 + c / 64) (c % 64) later (sextets later) (omega arith) (omega arith) (omega arith) (omega arith) refl)
    ∙ three a b c (sextets later) la lb lc
    ∙ ap (λ xs. a ∷ b ∷ c ∷ xs) (cut t h end none m more n (λ i. bytes (suc (suc (suc i)))) fewer)

-- Bytes that aren't base64 are skipped.
or_false : (t u : Bool) → (t || u) ≡ false → (t ≡ false) × (u ≡ false)
or_false true u e = cc
or_false false u e = (refl, e)

skipped : (b : ℕ) → is_base64_byte b ≡ false → (six_bits b ≡ None) × (nat_eq b 61 ≡ false)
skipped b e =
    let capital = or_false (nat_le 65 b && nat_le b 90) _ e in
    let small = or_false (nat_le 97 b && nat_le b 122) _ capital.1 in
    let figure = or_false (nat_le 48 b && nat_le b 57) _ small.1 in
    let plus = or_false (nat_eq b 43) _ figure.1 in
    let slash = or_false (nat_eq b 47) (nat_eq b 61) plus.1 in
    (rw (capital.0, small.0, figure.0, plus.0, slash.0) refl, slash.1)

sextets_filter : (text : List ℕ) → sextets text ≡ sextets (filter is_base64_byte text)
sextets_filter [] = refl
sextets_filter (b ∷ bs) = step (is_base64_byte b) refl (sextets_filter bs)
  where
    step : (t : Bool) → is_base64_byte b ≡ t → sextets bs ≡ sextets (filter is_base64_byte bs)
        → sextets (b ∷ bs) ≡ sextets (cond t (b ∷ filter is_base64_byte bs) (filter is_base64_byte bs))
    step true e later = ap (λ xs. cond (nat_eq b 61) [] (cons_option (six_bits b) xs)) later
    step false e later =
        let none = skipped b e in
        rw (none.1, none.0) later

no_more : (padding : List ℕ) → IsPadding padding → sextets padding ≡ []
no_more [] h = refl
no_more (b ∷ bs) h = ap (λ c. cond (nat_eq c 61) [] (cons_option (six_bits c) (sextets bs))) h

pub loose : LooseBase64
unfolding unbase64
loose bytes text h =
    ap packed (sextets_filter text ∙ ap sextets h.symbols)
    ∙ cut standard.encode_table standard_stands h.padding (no_more h.padding h.is_padding) bytes h.more h.count h.are_bytes h.whole_bytes
