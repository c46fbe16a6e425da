-- Q is read as it is spelled.
use Rattle.std.proofs.Common.{◌≡◌, inl, inr, ◌<◌, ◌≤◌, ◌+◌, ◌-◌, ◌*◌, ◌∙◌, ℕ, suc, Bool, true, false, cond, nat_le, ◌&&◌, ◌==◌, Option, List, [], ◌∷◌, map, Some, None, refl, ap, sym, arith}
use Rattle.std.specs.List.{list_all}
use Rattle.std.proofs.lemmas.Bool.{eqb-true}
use Rattle.std.proofs.lemmas.Bool.Decides.{nat_tests}
use Rattle.hex.specs.Hex.{hex_digit_value}
use Rattle.mime_words.specs.Quoted.{spelled as spelled_by, escape_or_plain, plain_byte, unquoted}
use Rattle.mime_words.specs.Words.{is_text_byte}
use Rattle.mime_words.specs.Spelled.{EncodedPart, Itself, Underscore, Digits, Equals, is_itself, IsDigit, BeginsWithDigits, HasNoDigits, LoneEqualsStays, AreEncodedParts, quoted_bytes, quoted_said}

-- Q, part by part.
unquoted-plain : (b : ℕ) (bs : List ℕ) → (b == 61) ≡ false → unquoted (b ∷ bs) ≡ plain_byte b ∷ unquoted bs
unquoted-plain b [] e = refl
unquoted-plain b (x ∷ []) e = refl
unquoted-plain b (x ∷ y ∷ bs) e = rw e refl

itself_plain : (b : ℕ) → is_itself b ≡ true → (b == 61) ≡ false
itself_plain b h = grind (arith, nat_tests)

itself_said : (b : ℕ) → is_itself b ≡ true → plain_byte b ≡ b
itself_said b h =
    let other : (b == 95) ≡ false = grind (arith, nat_tests) in
    rw other refl

itself_text : (b : ℕ) → is_itself b ≡ true → is_text_byte b ≡ true
itself_text b h = grind (arith, nat_tests)

digit_by : (n c : ℕ) → IsDigit n c → (hex_digit_value c ≡ Some n) × (is_text_byte c ≡ true)
digit_by n c (inl h) =
    let below : n < 10 = h.0 in
    let is : c ≡ 48 + n = h.1 in
    let capital : (nat_le 65 c && nat_le c 70) ≡ false = grind (arith, nat_tests) in
    let letter : (nat_le 97 c && nat_le c 102) ≡ false = grind (arith, nat_tests) in
    let figure : (nat_le 48 c && nat_le c 57) ≡ true = grind (arith, nat_tests) in
    let value : c - 48 ≡ n = omega arith in
    (rw (capital, letter, figure) (ap Some value), grind (arith, nat_tests))
digit_by n c (inr (high, low, inl is)) =
    let capital : (nat_le 65 c && nat_le c 70) ≡ true = grind (arith, nat_tests) in
    let value : c - 55 ≡ n = omega arith in
    (rw capital (ap Some value), grind (arith, nat_tests))
digit_by n c (inr (high, low, inr is)) =
    let capital : (nat_le 65 c && nat_le c 70) ≡ false = grind (arith, nat_tests) in
    let letter : (nat_le 97 c && nat_le c 102) ≡ true = grind (arith, nat_tests) in
    let value : c - 87 ≡ n = omega arith in
    (rw (capital, letter) (ap Some value), grind (arith, nat_tests))

-- What is read as a digit is one.
digit_read : (c n : ℕ) → hex_digit_value c ≡ Some n → IsDigit n c
digit_read c n e = step (nat_le 65 c && nat_le c 70) (nat_le 97 c && nat_le c 102) (nat_le 48 c && nat_le c 57) refl refl refl e
  where
    inside : (m : ℕ) → Some m ≡ Some n → m ≡ n
    inside m q = cc

    step : (t u v : Bool) → (nat_le 65 c && nat_le c 70) ≡ t → (nat_le 97 c && nat_le c 102) ≡ u → (nat_le 48 c && nat_le c 57) ≡ v
        → cond t (Some (c - 55)) (cond u (Some (c - 87)) (cond v (Some (c - 48)) None)) ≡ Some n → IsDigit n c
    step true u v f g h q =
        let value : c - 55 ≡ n = inside (c - 55) q in
        let low : 65 ≤ c = grind (arith, nat_tests) in
        let high : c ≤ 70 = grind (arith, nat_tests) in
        inr (omega arith, omega arith, inl (omega arith))
    step false true v f g h q =
        let value : c - 87 ≡ n = inside (c - 87) q in
        let low : 97 ≤ c = grind (arith, nat_tests) in
        let high : c ≤ 102 = grind (arith, nat_tests) in
        inr (omega arith, omega arith, inr (omega arith))
    step false false true f g h q =
        let value : c - 48 ≡ n = inside (c - 48) q in
        let low : 48 ≤ c = grind (arith, nat_tests) in
        let high : c ≤ 57 = grind (arith, nat_tests) in
        inl (omega arith, omega arith)
    step false false false f g h q = cc

-- `=` without two digits stays.
lone : (bs : List ℕ) → (BeginsWithDigits bs → ⊥) → unquoted (61 ∷ bs) ≡ 61 ∷ unquoted bs
lone [] h = refl
lone (x ∷ []) h = refl
lone (x ∷ y ∷ bs) h = step (hex_digit_value x) (hex_digit_value y) refl refl
  where
    step : (m n : Option ℕ) → hex_digit_value x ≡ m → hex_digit_value y ≡ n
        → escape_or_plain (spelled_by m n) 61 (unquoted (x ∷ y ∷ bs)) (unquoted bs) ≡ 61 ∷ unquoted (x ∷ y ∷ bs)
    step None n e f = refl
    step (Some m) None e f = refl
    step (Some m) (Some n) e f = absurd (h (m, n, digit_read x m e, digit_read y n f))

pub quoted_is : (parts : List EncodedPart) → AreEncodedParts parts → unquoted (quoted_bytes parts) ≡ quoted_said parts
quoted_is [] q = refl
quoted_is (Itself b ∷ parts) q =
    unquoted-plain b (quoted_bytes parts) (itself_plain b q.0) ∙ (λ i. itself_said b q.0 i ∷ quoted_is parts q.1 i)
quoted_is (Underscore ∷ parts) q = unquoted-plain 95 (quoted_bytes parts) refl ∙ ap (λ xs. 32 ∷ xs) (quoted_is parts q)
quoted_is (Digits high low first second ∷ parts) q =
    let h = digit_by high first q.0 in
    let l = digit_by low second q.1 in
    rw (h.0, l.0) (ap (λ xs. (16 * high + low) ∷ xs) (quoted_is parts q.2))
quoted_is (Equals ∷ parts) q = lone (quoted_bytes parts) q.0 ∙ ap (λ xs. 61 ∷ xs) (quoted_is parts q.1)

pub and_true : (t u : Bool) → t ≡ true → u ≡ true → (t && u) ≡ true
and_true true u a b = b
and_true false u a b = cc

pub quoted_text : (parts : List EncodedPart) → AreEncodedParts parts → list_all is_text_byte (quoted_bytes parts) ≡ true
quoted_text [] q = refl
quoted_text (Itself b ∷ parts) q = and_true (is_text_byte b) _ (itself_text b q.0) (quoted_text parts q.1)
quoted_text (Underscore ∷ parts) q = quoted_text parts q
quoted_text (Digits high low first second ∷ parts) q =
    and_true (is_text_byte first) _ (digit_by high first q.0).1 (and_true (is_text_byte second) _ (digit_by low second q.1).1 (quoted_text parts q.2))
quoted_text (Equals ∷ parts) q = quoted_text parts q.1

-- A text in which each `=` is alone.
pub lone_stays : LoneEqualsStays
lone_stays [] h = refl
lone_stays (b ∷ bs) h =
    let later : HasNoDigits bs = λ k e d. h (suc k) e (let next : suc k + 1 ≡ suc (k + 1) = omega arith in rw next d) in
    step (b == 61) refl (lone_stays bs later)
  where
    step : (t : Bool) → (b == 61) ≡ t → unquoted bs ≡ map plain_byte bs → unquoted (b ∷ bs) ≡ plain_byte b ∷ map plain_byte bs
    step true e stays =
        let is : b ≡ 61 = eqb-true b 61 e in
        ap (λ c. unquoted (c ∷ bs)) is ∙ lone bs (h 0 is) ∙ ap (λ t. 61 ∷ t) stays ∙ ap (λ c. plain_byte c ∷ map plain_byte bs) (sym is)
    step false e stays = unquoted-plain b bs e ∙ ap (λ t. plain_byte b ∷ t) stays
