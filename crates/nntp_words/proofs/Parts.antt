-- The patterns of a wildmat, the last one first.
use Rattle.std.proofs.Common.{◌≡◌, ◌≢◌, ℕ, suc, ◌+◌, ◌-◌, ◌<◌, Bool, true, false, cond, eqb, List, [], ◌∷◌, ◌++◌, length, get_or, take, drop, length-drop, Some, None, refl, sym, ap, ◌∙◌, arith}
use Rattle.std.specs.Option.{unwrap_or}
use Rattle.std.proofs.lemmas.List.{take-append-drop, drop_more, get_or-drop, take_all}
use Rattle.memchr.specs.Find.{IsLastByte, is_byte}
use Rattle.std.proofs.lemmas.Bool.{ne_eqb, eq-eqb, eqb-true}
use Rattle.nntp_words.specs.Wildmats.{with_byte, parts_of, says, last_said, decided}

-- A text without a comma is one part.
pub one-part : (bs : List ℕ) → ((i : ℕ) → i < length bs → get_or bs i 0 ≢ 44) → parts_of bs ≡ bs ∷ []
one-part [] none = refl
one-part (b ∷ bs) none =
    let first : eqb b 44 ≡ false = ne_eqb b 44 (none 0 (omega arith)) in
    rw (first, one-part bs (λ i within. none (suc i) (omega (arith, within)))) refl

joined_byte : (b : ℕ) (p : List ℕ) (ps more : List (List ℕ)) → with_byte b ((p ∷ ps) ++ more) ≡ with_byte b (p ∷ ps) ++ more
joined_byte b p ps more = refl

some_byte : (b : ℕ) (parts : List (List ℕ)) → (p : List ℕ) × (ps : List (List ℕ)) × (with_byte b parts ≡ p ∷ ps)
some_byte b [] = (b ∷ [], [], refl)
some_byte b (part ∷ parts) = (b ∷ part, parts, refl)

-- There is a part.
some_part : (bs : List ℕ) → (p : List ℕ) × (ps : List (List ℕ)) × (parts_of bs ≡ p ∷ ps)
some_part [] = ([], [], refl)
some_part (b ∷ bs) = by (eqb b 44)
  where
    by : (comma : Bool) → (p : List ℕ) × (ps : List (List ℕ)) × (cond comma ([] ∷ parts_of bs) (with_byte b (parts_of bs)) ≡ p ∷ ps)
    by true = ([], parts_of bs, refl)
    by false = some_byte b (parts_of bs)

-- The part after a comma is one more.
pub parts-append : (front bs : List ℕ) → parts_of bs ≡ bs ∷ [] → parts_of (front ++ 44 ∷ bs) ≡ parts_of front ++ bs ∷ []
parts-append [] bs one = ap (λ ps. [] ∷ ps) one
parts-append (a ∷ front) bs one = by (parts-append front bs one) (eqb a 44)
  where
    by : parts_of (front ++ 44 ∷ bs) ≡ parts_of front ++ bs ∷ [] → (comma : Bool) → cond comma ([] ∷ parts_of (front ++ 44 ∷ bs)) (with_byte a (parts_of (front ++ 44 ∷ bs))) ≡ cond comma ([] ∷ parts_of front) (with_byte a (parts_of front)) ++ bs ∷ []
    by rest true = ap (λ ps. [] ∷ ps) rest
    by rest false =
        let some = some_part front in
        ap (with_byte a) (rest ∙ ap (λ ps. ps ++ bs ∷ []) some.2) ∙ joined_byte a some.0 some.1 (bs ∷ []) ∙ ap (λ ps. with_byte a ps ++ bs ∷ []) (sym some.2)

said-append : (before : Bool) (parts : List (List ℕ)) (last name : List ℕ) → last_said before (parts ++ last ∷ []) name ≡ unwrap_or (says last name) (last_said before parts name)
said-append before [] last name = refl
said-append before (part ∷ parts) last name = said-append (unwrap_or (says part name) before) parts last name

-- What the patterns say, by the last of them and those before it.
pub said-before : (front bs name : List ℕ) → ((i : ℕ) → i < length bs → get_or bs i 0 ≢ 44)
    → last_said false (parts_of (front ++ 44 ∷ bs)) name ≡ unwrap_or (says bs name) (last_said false (parts_of front) name)
said-before front bs name none = ap (λ ps. last_said false ps name) (parts-append front bs (one-part bs none)) ∙ said-append false (parts_of front) bs name

-- What one pattern says.
pub said-alone : (bs name : List ℕ) → ((i : ℕ) → i < length bs → get_or bs i 0 ≢ 44) → last_said false (parts_of bs) name ≡ unwrap_or (says bs name) false
said-alone bs name none = ap (λ ps. last_said false ps name) (one-part bs none)

-- What is from an index on.
pub from-index : (xs : List ℕ) (n : ℕ) → take (length xs - n) (drop n xs) ≡ drop n xs
from-index xs n = take_all (length xs - n) (drop n xs) (omega (arith, length-drop n xs))

-- A text is what is before its last comma, the comma, and what is after it.
at_comma : (left : List ℕ) (k : ℕ) → k < length left → eqb (get_or left k 0) 44 ≡ true → left ≡ take k left ++ 44 ∷ drop (k + 1) left
at_comma left k within e =
    sym (take-append-drop k left) ∙ ap (λ t. take k left ++ t) (drop_more left k 0 within ∙ ap (λ b. b ∷ drop (k + 1) left) (eqb-true (get_or left k 0) 44 e))

-- No comma is after the last one.
no_comma : (left : List ℕ) (k i : ℕ) → IsLastByte (is_byte 44) left (Some k) → i < length (drop (k + 1) left) → get_or (drop (k + 1) left) i 0 ≢ 44
no_comma left k i last within is =
    let inside : k + 1 + i < length left = omega (arith, length-drop (k + 1) left, within) in
    last.0.after (k + 1 + i) (omega arith) inside (eq-eqb (get_or left (k + 1 + i) 0) 44 (sym (get_or-drop (k + 1) left i 0) ∙ is))

-- What the patterns say, by what is after the last comma and what is before it.
by_comma : (left name : List ℕ) (k : ℕ) → IsLastByte (is_byte 44) left (Some k)
    → last_said false (parts_of left) name ≡ unwrap_or (says (drop (k + 1) left) name) (last_said false (parts_of (take k left)) name)
by_comma left name k last =
    ap (λ t. last_said false (parts_of t) name) (at_comma left k last.0.high last.1)
    ∙ said-before (take k left) (drop (k + 1) left) name (λ i within. no_comma left k i last within)

-- The last pattern matches.
pub said-last : (left name : List ℕ) (k : ℕ) (said all : Bool) → IsLastByte (is_byte 44) left (Some k) → Some said ≡ says (drop (k + 1) left) name
    → last_said false (parts_of left) name ≡ all → said ≡ all
said-last left name k said all last e so_far =
    ap (λ o. unwrap_or o (last_said false (parts_of (take k left)) name)) e ∙ sym (by_comma left name k last) ∙ so_far

-- The last pattern doesn't match: those before it decide.
pub said-earlier : (left name : List ℕ) (k : ℕ) (all : Bool) → IsLastByte (is_byte 44) left (Some k) → None ≡ says (drop (k + 1) left) name
    → last_said false (parts_of left) name ≡ all → last_said false (parts_of (take k left)) name ≡ all
said-earlier left name k all last e so_far =
    ap (λ o. unwrap_or o (last_said false (parts_of (take k left)) name)) e ∙ sym (by_comma left name k last) ∙ so_far

-- No pattern is before it.
pub said-first : (left name : List ℕ) (said all : Bool) → IsLastByte (is_byte 44) left None → said ≡ unwrap_or (says left name) false
    → last_said false (parts_of left) name ≡ all → said ≡ all
said-first left name said all none e so_far =
    e ∙ sym (said-alone left name (λ i within is. none i (omega arith) within (eq-eqb (get_or left i 0) 44 is))) ∙ so_far

-- What all say, at first.
pub decided-is : (wildmat name : List ℕ) → decided wildmat name ≡ last_said false (parts_of wildmat) name
unfolding decided
decided-is wildmat name = refl
