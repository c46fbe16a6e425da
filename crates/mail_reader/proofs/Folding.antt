-- A line feed in a field stands at its end or before a continuation line.
use Rattle.std.proofs.Common.{◌≡◌, ◌⊎◌, inl, inr, ℕ, zero, suc, ◌+◌, Bool, true, false, cond, eqb, ◌||◌, List, [], ◌∷◌, ◌++◌, drop, get_or, refl, ap, ◌∙◌, sym, arith, subst}
use Rattle.std.specs.List.{onto_first}
use Rattle.std.proofs.lemmas.Bool.{eqb-true, both_ways, eq-eqb}
use Rattle.mail_reader.specs.Lines.{lines_of, is_field_line, is_continuation, front, header_lines}
use Rattle.mail_reader.specs.Fields.{parts_of, without_feed}
use Rattle.mail_reader.proofs.FirstFields.{parts_by}
use Rattle.mail_reader.proofs.FieldNames.{name_within, is_field_line-within}

-- Nothing, or bytes that begin with a space or a tab.
abbrev pub GoesOn : List ℕ → Type 0
GoesOn [] = Unit {0}
GoesOn (b ∷ bs) = (b ≡ 32) ⊎ (b ≡ 9)

-- Each line feed is the last byte, or is followed by such bytes.
abbrev pub Folded : List ℕ → Type 0
Folded [] = Unit {0}
Folded (b ∷ bs) = (b ≡ 10 → GoesOn bs) × Folded bs

-- A line feed is the last byte.
abbrev IsLine : List ℕ → Type 0
IsLine [] = Unit {0}
IsLine (b ∷ bs) = (b ≡ 10 → bs ≡ []) × IsLine bs

abbrev AreLines : List (List ℕ) → Type 0
AreLines [] = Unit {0}
AreLines (l ∷ ls) = IsLine l × AreLines ls

are_lines : (xs : List ℕ) → AreLines (lines_of xs)
are_lines [] = tt
are_lines (x ∷ xs) = step (eqb x 10) x (lines_of xs) refl (are_lines xs)
  where
    step : (t : Bool) (b : ℕ) (ls : List (List ℕ)) → eqb b 10 ≡ t → AreLines ls → AreLines (cond t ((b ∷ []) ∷ ls) (onto_first b ls))
    step true b ls e h = ((λ _. refl, tt), h)
    step false b [] e h = ((λ _. refl, tt), h)
    step false b (l ∷ ls) e h = ((λ same. absurd (both_ways (eqb b 10) e (eq-eqb b 10 same)), h.0), h.1)

-- Lines of a header: each starts a field or continues one.
abbrev AreHeader : List (List ℕ) → Type 0
AreHeader [] = Unit {0}
AreHeader (l ∷ ls) = IsLine l × ((is_field_line l || is_continuation l) ≡ true) × AreHeader ls

front_header : (ls : List (List ℕ)) → AreLines ls → AreHeader (front ls)
front_header [] h = tt
front_header (l ∷ ls) h = step (is_field_line l || is_continuation l) (front ls) refl (front_header ls h.1)
  where
    step : (t : Bool) (fs : List (List ℕ)) → (is_field_line l || is_continuation l) ≡ t → AreHeader fs → AreHeader (cond t (l ∷ fs) [])
    step true fs e k = (h.0, e, k)
    step false fs e k = tt

header_header : (ls : List (List ℕ)) → AreLines ls → AreHeader (header_lines ls)
header_header [] h = tt
header_header (l ∷ ls) h = step (is_field_line l) refl
  where
    step : (t : Bool) → is_field_line l ≡ t → AreHeader (cond t (l ∷ front ls) [])
    step true e = (h.0, ap (λ t. t || is_continuation l) e, front_header ls h.1)
    step false e = tt

-- A line and the lines that continue it.
folded-append : (l ys : List ℕ) → IsLine l → GoesOn ys → Folded ys → Folded (l ++ ys)
folded-append [] ys h g f = f
folded-append (b ∷ bs) ys h g f =
    (λ e. subst (λ (t : List ℕ). GoesOn (t ++ ys)) (sym (h.0 e)) g, folded-append bs ys h.1 g f)

-- Each field is a field line and the lines that continue it.
abbrev pub AllFields : List (List ℕ) → Type 0
AllFields [] = Unit {0}
AllFields (w ∷ ws) = (is_field_line w ≡ true) × Folded w × AllFields ws

abbrev AreParts : List ℕ × List (List ℕ) → Type 0
AreParts parts = GoesOn parts.0 × Folded parts.0 × AllFields parts.1

goes_on : (l ys : List ℕ) → is_continuation l ≡ true → GoesOn (l ++ ys)
goes_on [] ys c = absurd (both_ways false refl c)
goes_on (b ∷ bs) ys c = step (eqb b 32) (eqb b 9) refl refl c
  where
    step : (t u : Bool) → eqb b 32 ≡ t → eqb b 9 ≡ u → (t || u) ≡ true → (b ≡ 32) ⊎ (b ≡ 9)
    step true u e f h = inl (eqb-true b 32 e)
    step false true e f h = inr (eqb-true b 9 f)
    step false false e f h = absurd (both_ways false refl h)

are_parts : (ls : List (List ℕ)) → AreHeader ls → AreParts (parts_of ls)
are_parts [] h = (tt, tt, tt)
are_parts (l ∷ ls) h = step (is_field_line l) (parts_of ls) refl h.1 (are_parts ls h.2)
  where
    step : (f : Bool) (p : List ℕ × List (List ℕ)) → is_field_line l ≡ f → (f || is_continuation l) ≡ true → AreParts p → AreParts (parts_by f l p)
    step true p e c k = (tt, tt, (is_field_line-within l p.0 (name_within l e) ∙ e, folded-append l p.0 h.0 k.0 k.1, k.2))
    step false p e c k = (goes_on l p.0 c, folded-append l p.0 h.0 k.0 k.1, k.2)

-- The fields of a text are folded so.
pub all_fields : (text : List ℕ) → AllFields (parts_of (header_lines (lines_of text))).1
all_fields text = (are_parts (header_lines (lines_of text)) (header_header (lines_of text) (are_lines text))).2

pub folded-drop : (n : ℕ) (xs : List ℕ) → Folded xs → Folded (drop n xs)
folded-drop zero xs h = h
folded-drop (suc n) [] h = h
folded-drop (suc n) (x ∷ xs) h = folded-drop n xs h.1

-- Bytes that continue a line start with the same byte without a line feed at their end.
first_stays : (c : ℕ) (cs : List ℕ) → (c ≡ 32) ⊎ (c ≡ 9) → get_or (without_feed (c ∷ cs)) 0 0 ≡ c
first_stays c (d ∷ cs) h = refl
first_stays c [] (inl e) = rw e refl
first_stays c [] (inr e) = rw e refl

-- A value continues after each line feed in it.
pub value_goes_on : (xs : List ℕ) → Folded xs → (k : ℕ) → get_or (without_feed xs) k 0 ≡ 10
    → (get_or (without_feed xs) (k + 1) 0 ≡ 32) ⊎ (get_or (without_feed xs) (k + 1) 0 ≡ 9)
value_goes_on [] h k e = absurd (omega arith)
value_goes_on (b ∷ []) h k e = absurd (step (eqb b 10) refl k e)
  where
    step : (t : Bool) → eqb b 10 ≡ t → (k : ℕ) → get_or (cond t [] (b ∷ [])) k 0 ≡ 10 → ⊥
    step true q k e = omega arith
    step false q zero e = both_ways (eqb b 10) q (eq-eqb b 10 e)
    step false q (suc k) e = omega arith
value_goes_on (b ∷ c ∷ bs) h zero e = by_first (h.0 e)
  where
    by_first : (c ≡ 32) ⊎ (c ≡ 9) → (get_or (without_feed (c ∷ bs)) 0 0 ≡ 32) ⊎ (get_or (without_feed (c ∷ bs)) 0 0 ≡ 9)
    by_first (inl f) = inl (first_stays c bs (inl f) ∙ f)
    by_first (inr f) = inr (first_stays c bs (inr f) ∙ f)
value_goes_on (b ∷ c ∷ bs) h (suc k) e =
    let later = value_goes_on (c ∷ bs) h.1 k e in
    let next : suc k + 1 ≡ suc (k + 1) = omega arith in
    rw next later
