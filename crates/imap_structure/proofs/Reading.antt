-- Strings are read back.
use Rattle.std.proofs.Common.{◌≡◌, ◌≢◌, ℕ, zero, suc, ◌+◌, ◌<◌, ◌^◌, ◌/◌, ◌%◌, Bool, true, false, cond, List, [], ◌∷◌, ◌++◌, length, codes, refl, sym, ap, ◌∙◌, arith, append_assoc}
use Rattle.std.specs.List.{list_all}
use Rattle.std.specs.Fmt.{decimal}
use Rattle.std.proofs.lemmas.Bool.{and_parts}
use Rattle.std.proofs.lemmas.Bool.Decides.{nat_tests}
use Rattle.std.proofs.lemmas.Fmt.{decimal_by_steps, decimal_injective}
use Rattle.imap_structure.specs.Strings.{is_quotable, in_quotes, literal, string_of}
use Rattle.imap_structure.specs.Laws.{StringsAreRead}

-- The first of a list's items, and the others.
abbrev head_or : List ℕ → ℕ
head_or [] = 0
head_or (x ∷ xs) = x

abbrev others : List ℕ → List ℕ
others [] = []
others (x ∷ xs) = xs

same_head : (x y : ℕ) (xs ys : List ℕ) → x ∷ xs ≡ y ∷ ys → x ≡ y
same_head x y xs ys e = ap head_or e

same_others : (x y : ℕ) (xs ys : List ℕ) → x ∷ xs ≡ y ∷ ys → xs ≡ ys
same_others x y xs ys e = ap others e

-- The list doesn't have a byte.
abbrev pub Avoids : ℕ → List ℕ → Type 0
Avoids stop [] = Unit {0}
Avoids stop (x ∷ xs) = (x ≢ stop) × Avoids stop xs

avoids-more : (stop : ℕ) (xs ys : List ℕ) → Avoids stop xs → Avoids stop ys → Avoids stop (xs ++ ys)
avoids-more stop [] ys a b = b
avoids-more stop (x ∷ xs) ys a b = (a.0, avoids-more stop xs ys a.1 b)

-- What stands before the first such byte, and what follows it.
pub same-front : (stop : ℕ) (a b rest other : List ℕ) → Avoids stop a → Avoids stop b → a ++ stop ∷ rest ≡ b ++ stop ∷ other → (a ≡ b) × (rest ≡ other)
same-front stop [] [] rest other p q e = (refl, same_others stop stop rest other e)
same-front stop [] (y ∷ b) rest other p q e = absurd (q.0 (sym (same_head stop y rest (b ++ stop ∷ other) e)))
same-front stop (x ∷ a) [] rest other p q e = absurd (p.0 (same_head x stop (a ++ stop ∷ rest) other e))
same-front stop (x ∷ a) (y ∷ b) rest other p q e =
    let later = same-front stop a b rest other p.1 q.1 (same_others x y (a ++ stop ∷ rest) (b ++ stop ∷ other) e) in
    let first : x ≡ y = same_head x y (a ++ stop ∷ rest) (b ++ stop ∷ other) e in
    (rw (first, later.0) refl, later.1)

-- Two fronts of one length.
pub same-long : (a b rest other : List ℕ) → length a ≡ length b → a ++ rest ≡ b ++ other → (a ≡ b) × (rest ≡ other)
same-long [] [] rest other l e = (refl, e)
same-long [] (y ∷ b) rest other l e = absurd (omega (arith, l))
same-long (x ∷ a) [] rest other l e = absurd (omega (arith, l))
same-long (x ∷ a) (y ∷ b) rest other l e =
    let later = same-long a b rest other (omega (arith, l)) (same_others x y (a ++ rest) (b ++ other) e) in
    let first : x ≡ y = same_head x y (a ++ rest) (b ++ other) e in
    (rw (first, later.0) refl, later.1)

-- A byte that may stand in quotes is no quote.
unquoted : (b : ℕ) → is_quotable b ≡ true → b ≢ 34
unquoted b q = λ (e : b ≡ 34). (let no : is_quotable b ≡ false = rw e refl in cc (no, q))

quotable-avoids : (bytes : List ℕ) → list_all is_quotable bytes ≡ true → Avoids 34 bytes
quotable-avoids [] h = tt
quotable-avoids (b ∷ bs) h = let parts = and_parts (is_quotable b) (list_all is_quotable bs) h in (unquoted b parts.0, quotable-avoids bs parts.1)

-- No digit is a brace.
digits-avoid : (n : ℕ) → n < 2 ^ 64 → Avoids 125 (decimal n)
digits-avoid n small =
    decimal_by_steps (λ m ds. Avoids 125 ds) (λ m less. ((λ (e : 48 + m ≡ 125). omega arith), tt))
    (λ m ds more front. avoids-more 125 ds ((48 + m % 10) ∷ []) front ((λ (e : 48 + m % 10 ≡ 125). omega arith), tt)) n small

-- A string by whether its bytes may stand in quotes.
abbrev string_by : Bool → List ℕ → List ℕ
string_by t bytes = cond t (in_quotes bytes) (literal bytes)

quoted_text : (bytes rest : List ℕ) → in_quotes bytes ++ rest ≡ 34 ∷ (bytes ++ 34 ∷ rest)
quoted_text bytes rest = ap (λ t. 34 ∷ t) (append_assoc bytes (34 ∷ []) rest)

literal_text : (bytes rest : List ℕ) → literal bytes ++ rest ≡ 123 ∷ (decimal (length bytes) ++ 125 ∷ 13 ∷ 10 ∷ (bytes ++ rest))
unfolding literal
literal_text bytes rest =
    ap (λ t. 123 ∷ t) (ap (λ t. t ++ rest) (append_assoc (decimal (length bytes)) (125 ∷ 13 ∷ 10 ∷ []) bytes) ∙ append_assoc (decimal (length bytes)) (125 ∷ 13 ∷ 10 ∷ bytes) rest)

same_literals : (a b rest other : List ℕ) → length a < 2 ^ 64 → length b < 2 ^ 64
    → decimal (length a) ++ 125 ∷ 13 ∷ 10 ∷ (a ++ rest) ≡ decimal (length b) ++ 125 ∷ 13 ∷ 10 ∷ (b ++ other) → (a ≡ b) × (rest ≡ other)
same_literals a b rest other p q e =
    let fronts = same-front 125 (decimal (length a)) (decimal (length b)) (13 ∷ 10 ∷ (a ++ rest)) (13 ∷ 10 ∷ (b ++ other)) (digits-avoid (length a) p) (digits-avoid (length b) q) e in
    let octets : a ++ rest ≡ b ++ other = ap (λ t. others (others t)) fronts.1 in
    same-long a b rest other (decimal_injective (length a) (length b) p q fronts.0) octets

read_by : (s t : Bool) (a b rest other : List ℕ) → (s ≡ true → list_all is_quotable a ≡ true) → (t ≡ true → list_all is_quotable b ≡ true) → length a < 2 ^ 64 → length b < 2 ^ 64
    → string_by s a ++ rest ≡ string_by t b ++ other → (a ≡ b) × (rest ≡ other)
read_by true true a b rest other f g p q e =
    let texts : 34 ∷ (a ++ 34 ∷ rest) ≡ 34 ∷ (b ++ 34 ∷ other) = sym (quoted_text a rest) ∙ e ∙ quoted_text b other in
    same-front 34 a b rest other (quotable-avoids a (f refl)) (quotable-avoids b (g refl)) (ap others texts)
read_by false false a b rest other f g p q e =
    let texts : 123 ∷ (decimal (length a) ++ 125 ∷ 13 ∷ 10 ∷ (a ++ rest)) ≡ 123 ∷ (decimal (length b) ++ 125 ∷ 13 ∷ 10 ∷ (b ++ other)) = sym (literal_text a rest) ∙ e ∙ literal_text b other in
    same_literals a b rest other p q (ap others texts)
read_by true false a b rest other f g p q e =
    let marks : 34 ≡ 123 = ap head_or (sym (quoted_text a rest) ∙ e ∙ literal_text b other) in absurd (omega (arith, marks))
read_by false true a b rest other f g p q e =
    let marks : 123 ≡ 34 = ap head_or (sym (literal_text a rest) ∙ e ∙ quoted_text b other) in absurd (omega (arith, marks))

pub strings-read : StringsAreRead
unfolding string_of
strings-read a b rest other p q e = read_by (list_all is_quotable a) (list_all is_quotable b) a b rest other (λ t. t) (λ t. t) p q e
