-- The name at the front of a line, whatever follows the line.
use Rattle.std.proofs.Common.{◌≡◌, ℕ, ◌+◌, ◌<◌, ◌≤◌, Bool, true, false, cond, eqb, ltb, ◌&&◌, ◌||◌, List, [], ◌∷◌, ◌++◌, length, get_or, refl, sym, ◌∙◌, arith, add-zero, ⊎_elim, subst}
use Rattle.std.proofs.lemmas.Bool.{eqb-true, and_parts, ne_eqb, false_from_ne_true, lt-ltb, eq-eqb, true≢false, and_right, cases_lt, ltb-true}
use Rattle.std.proofs.lemmas.List.{get_or_past, get_or_append_left, take-append-le, get_or_push}
use Rattle.std.proofs.lemmas.Bool.Decides.{nat_tests}
use Rattle.std.proofs.lemmas.List.Folds.{prefix_len-append}
use Rattle.std.proofs.lemmas.List.Sums.{prefix_len-le-length}
use Rattle.std.specs.List.{prefix_len}
use Rattle.mail_reader.specs.Lines.{is_name_byte, is_field_line, is_continuation}
use Rattle.mail_reader.specs.Fields.{name_of, is_named}
use Rattle.mail_reader.specs.Stored.{is_dropped}

-- A prefix that ends within a list ends there whatever follows.
pub prefix_len-within : (p : ℕ → Bool) (xs ys : List ℕ) → prefix_len p xs < length xs → prefix_len p (xs ++ ys) ≡ prefix_len p xs
prefix_len-within p xs ys h =
    let ne : eqb (prefix_len p xs) (length xs) ≡ false = ne_eqb (prefix_len p xs) (length xs) (λ e. omega arith) in
    prefix_len-append p xs ys ∙ rw ne refl

-- A field line has a colon after its name.
pub name_within : (line : List ℕ) → is_field_line line ≡ true → prefix_len is_name_byte line < length line
unfolding is_field_line
name_within line h =
    let colon : get_or line (prefix_len is_name_byte line) 0 ≡ 58 = eqb-true (get_or line (prefix_len is_name_byte line) 0) 58 (and_parts (ltb 0 (prefix_len is_name_byte line)) _ h).1 in
    grind (arith, get_or_past line (prefix_len is_name_byte line) 0)

-- A continuation line doesn't start a field.
pub no_field-continuation : (line : List ℕ) → is_continuation line ≡ true → is_field_line line ≡ false
unfolding is_field_line
no_field-continuation [] h = refl
no_field-continuation (b ∷ bs) h = step (is_name_byte b) (by_value b h)
  where
    by_value : (c : ℕ) → (eqb c 32 || eqb c 9) ≡ true → is_name_byte c ≡ false
    by_value c q = grind (arith, nat_tests)

    step : (t : Bool) → t ≡ false → (ltb 0 (cond t (1 + prefix_len is_name_byte bs) 0) && eqb (get_or (b ∷ bs) (cond t (1 + prefix_len is_name_byte bs) 0) 0) 58) ≡ false
    step true q = absurd (true≢false q)
    step false q = refl

-- The name is the same, whatever follows the line.
pub name_of-within : (line more : List ℕ) → prefix_len is_name_byte line < length line → name_of (line ++ more) ≡ name_of line
name_of-within line more h =
    rw (prefix_len-within is_name_byte line more h) (take-append-le (prefix_len is_name_byte line) line more (omega arith))

pub is_dropped-within : (line more : List ℕ) → is_field_line line ≡ true → is_dropped (line ++ more) ≡ is_dropped line
unfolding is_dropped is_named
is_dropped-within line more h = rw (name_of-within line more (name_within line h)) refl

-- A field line is one, whatever follows it.
pub is_field_line-within : (line more : List ℕ) → prefix_len is_name_byte line < length line → is_field_line (line ++ more) ≡ is_field_line line
unfolding is_field_line
is_field_line-within line more h =
    rw (prefix_len-within is_name_byte line more h, get_or_append_left line more 0 (prefix_len is_name_byte line) h) refl

-- If the whole line is a name, it isn't a field line.
pub no_field-past : (line : List ℕ) → length line ≤ prefix_len is_name_byte line → is_field_line line ≡ false
no_field-past line h = false_from_ne_true (is_field_line line) (λ e. let w : prefix_len is_name_byte line < length line = name_within line e in omega arith)

-- It isn't one with a line feed after it, either.
pub no_field-past_feed : (line : List ℕ) → length line ≤ prefix_len is_name_byte line → is_field_line (line ++ 10 ∷ []) ≡ false
unfolding is_field_line
no_field-past_feed line h =
    let all : prefix_len is_name_byte line ≡ length line = omega (arith, prefix_len-le-length is_name_byte line) in
    let len : prefix_len is_name_byte (line ++ 10 ∷ []) ≡ length line =
    prefix_len-append is_name_byte line (10 ∷ []) ∙ rw (all, eq-eqb (length line) (length line) refl) (add-zero (length line)) in
    let byte : get_or (line ++ 10 ∷ []) (prefix_len is_name_byte (line ++ 10 ∷ [])) 0 ≡ 10 =
    get_or_push line 10 0 (prefix_len is_name_byte (line ++ 10 ∷ [])) (sym len) in
    and_right (ltb 0 (prefix_len is_name_byte (line ++ 10 ∷ []))) (eqb (get_or (line ++ 10 ∷ []) (prefix_len is_name_byte (line ++ 10 ∷ [])) 0) 58) (rw byte refl)

-- A line feed at the end changes nothing.
pub is_field_line-ended : (line : List ℕ) → is_field_line (line ++ 10 ∷ []) ≡ is_field_line line
is_field_line-ended line =
    ⊎_elim (λ (h : prefix_len is_name_byte line < length line). is_field_line-within line (10 ∷ []) h) (λ (h : length line ≤ prefix_len is_name_byte line). no_field-past_feed line h ∙ sym (no_field-past line h)) (cases_lt (prefix_len is_name_byte line) (length line))

-- A field line, by the length of its name.
pub field_line-at : (line : List ℕ) (n : ℕ) → n ≡ prefix_len is_name_byte line → 0 < n → eqb (get_or line n 0) 58 ≡ is_field_line line
unfolding is_field_line
field_line-at line n e h =
    let some : ltb 0 n ≡ true = lt-ltb 0 n h in
    let q : (ltb 0 n && eqb (get_or line n 0) 58) ≡ eqb (get_or line n 0) 58 = rw some refl in
    let P : ℕ → Type 0 = λ m. eqb (get_or line n 0) 58 ≡ (ltb 0 m && eqb (get_or line m 0) 58) in
    subst P e (sym q)

-- A line that isn't a field line, by the length of its name.
pub no_field_line-at : (line : List ℕ) (n : ℕ) → n ≡ prefix_len is_name_byte line → (0 < n → n < length line → ⊥) → false ≡ is_field_line line
unfolding is_field_line
no_field_line-at line n e h =
    sym (false_from_ne_true (is_field_line line) (λ t. let w : prefix_len is_name_byte line < length line = name_within line t in
    let some : 0 < prefix_len is_name_byte line = ltb-true 0 (prefix_len is_name_byte line) (and_parts (ltb 0 (prefix_len is_name_byte line)) (eqb (get_or line (prefix_len is_name_byte line) 0) 58) t).0 in
    h (omega arith) (omega arith)))
