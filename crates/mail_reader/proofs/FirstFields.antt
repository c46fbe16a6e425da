-- The front of a text: a line, continuation lines, a field, or no field.
use Rattle.std.proofs.Common.{◌≡◌, ℕ, ◌+◌, ◌<◌, ◌≤◌, zero, suc, Bool, true, false, cond, eqb, ◌||◌, List, [], ◌∷◌, ◌++◌, length, take, drop, map, get_or, refl, sym, ap, ◌∙◌, append_assoc, arith, length-drop, subst}
use Rattle.std.specs.List.{onto_first, prefix_len}
use Rattle.std.proofs.lemmas.List.{take_more, take_all, drop_all, take-take, take-append-drop, drop-take, drop-drop, length-take-le, append-nil, length-map}
use Rattle.mail_reader.specs.Lines.{lines_of, is_name_byte, is_field_line, is_continuation, front, after_front, header_lines, after_header}
use Rattle.mail_reader.specs.Fields.{parts_of, field_of, fields_of}
use Rattle.mail_reader.specs.Reading.{Continues, IsFirstField, HasNoField}
use Rattle.mail_reader.proofs.Trims.{NoFeed}
use Rattle.mail_reader.proofs.LineEnds.{lines_of-at, lines_of-none}
use Rattle.mail_reader.proofs.FieldNames.{prefix_len-within, name_within, no_field-continuation}

-- The first line, if a line feed is found.
pub lines_of-first : (xs : List ℕ) (k : ℕ) → k < length xs → NoFeed (take k xs) → get_or xs k 0 ≡ 10 → xs ≡ take k xs ++ 10 ∷ drop (k + 1) xs
    → lines_of xs ≡ take (k + 1) xs ∷ lines_of (drop (k + 1) xs)
lines_of-first xs k h free here split =
    ap lines_of split ∙ lines_of-at (take k xs) (drop (k + 1) xs) free
    ∙ ap (λ t. t ∷ lines_of (drop (k + 1) xs)) (sym (take_more xs k 0 h ∙ ap (λ b. take k xs ++ b ∷ []) here))

-- The first line, if no line feed is found.
pub lines_of-only : (xs : List ℕ) → NoFeed xs → 0 < length xs → lines_of xs ≡ take (length xs) xs ∷ lines_of (drop (length xs) xs)
lines_of-only xs free h =
    rw (take_all (length xs) xs (omega arith), drop_all (length xs) xs (omega arith)) (lines_of-none xs free h)

-- The parts with one more line before them, by whether it starts a field.
abbrev pub parts_by : Bool → List ℕ → List ℕ × List (List ℕ) → List ℕ × List (List ℕ)
parts_by t line parts = cond t ([], (line ++ parts.0) ∷ parts.1) (line ++ parts.0, parts.1)

-- Two pieces at the front.
pub take-two : (xs : List ℕ) (n m : ℕ) → take n xs ++ take m (drop n xs) ≡ take (n + m) xs
take-two xs n m =
    sym (ap (λ t. take n xs ++ t) (drop-take n m xs)) ∙ ap (λ t. t ++ drop n (take (n + m) xs)) (sym (take-take n (n + m) xs (omega arith)))
    ∙ take-append-drop n (take (n + m) xs)

-- The first `len` bytes are continuation lines.
pub record Continuing (bytes : List ℕ) (len : ℕ) : Type 0 where
  pub within : len ≤ length bytes
  pub parts : parts_of (front (lines_of bytes)) ≡ (take len bytes ++ (parts_of (front (lines_of (drop len bytes)))).0, (parts_of (front (lines_of (drop len bytes)))).1)
  pub after : after_front (lines_of bytes) ≡ after_front (lines_of (drop len bytes))

pub Continuing-none : (bytes : List ℕ) → Continuing bytes 0
Continuing-none bytes = record { within = omega arith; parts = refl; after = refl }

-- A continuation line at the front of lines.
parts-continued : (line : List ℕ) (lines : List (List ℕ)) → is_continuation line ≡ true
    → parts_of (front (line ∷ lines)) ≡ (line ++ (parts_of (front lines)).0, (parts_of (front lines)).1)
parts-continued line lines c = rw (no_field-continuation line c, c, no_field-continuation line c) refl

after_front-continued : (line : List ℕ) (lines : List (List ℕ)) → is_continuation line ≡ true → after_front (line ∷ lines) ≡ after_front lines
after_front-continued line lines c = rw (no_field-continuation line c, c) refl

pub Continuing-more : (bytes : List ℕ) (n m : ℕ) → Continuing bytes n → m ≤ length (drop n bytes)
    → lines_of (drop n bytes) ≡ take m (drop n bytes) ∷ lines_of (drop m (drop n bytes)) → is_continuation (take m (drop n bytes)) ≡ true
    → Continuing bytes (n + m)
Continuing-more bytes n m h l e c =
    let later = parts_of (front (lines_of (drop (n + m) bytes))) in
    let here : parts_of (front (lines_of (drop n bytes))) ≡ (take m (drop n bytes) ++ (parts_of (front (lines_of (drop (n + m) bytes)))).0, (parts_of (front (lines_of (drop (n + m) bytes)))).1) =
    ap (λ ls. parts_of (front ls)) e ∙ parts-continued (take m (drop n bytes)) (lines_of (drop m (drop n bytes))) c ∙ rw (drop-drop m n bytes) refl in
    let rest : after_front (lines_of (drop n bytes)) ≡ after_front (lines_of (drop (n + m) bytes)) =
    ap after_front e ∙ after_front-continued (take m (drop n bytes)) (lines_of (drop m (drop n bytes))) c ∙ rw (drop-drop m n bytes) refl in
    record {
      within = omega (arith, h.within, length-drop n bytes);
      parts = h.parts ∙ rw here (ap (λ t. (t, (parts_of (front (lines_of (drop (n + m) bytes)))).1)) (sym (append_assoc (take n bytes) (take m (drop n bytes)) (parts_of (front (lines_of (drop (n + m) bytes)))).0) ∙ ap (λ t. t ++ (parts_of (front (lines_of (drop (n + m) bytes)))).0) (take-two bytes n m)));
      after = h.after ∙ rest;
    }

-- At a line that continues nothing, the rest of the header is a header.
record Stops (lines : List (List ℕ)) : Type 0 where
  parts : parts_of (front lines) ≡ ([], (parts_of (header_lines lines)).1)
  after : after_front lines ≡ after_header lines

Stops-none : Stops []
Stops-none = record { parts = refl; after = refl }

Stops-at : (line : List ℕ) (lines : List (List ℕ)) → is_continuation line ≡ false → Stops (line ∷ lines)
Stops-at line lines c = record { parts = by_parts (is_field_line line) (is_continuation line) refl c; after = by_after (is_field_line line) (is_continuation line) c }
  where
    by_parts : (f c : Bool) → is_field_line line ≡ f → c ≡ false → parts_of (cond (f || c) (line ∷ front lines) []) ≡ ([], (parts_of (cond f (line ∷ front lines) [])).1)
    by_parts true c q e = rw q refl
    by_parts false c q e = rw e refl

    by_after : (f c : Bool) → c ≡ false → cond (f || c) (after_front lines) (line ∷ lines) ≡ cond f (after_front lines) (line ∷ lines)
    by_after true c e = refl
    by_after false c e = rw e refl

from_stops : (bytes : List ℕ) (n : ℕ) → Continuing bytes n → Stops (lines_of (drop n bytes)) → Continues bytes n
from_stops bytes n h s = record {
  within = h.within;
  parts = h.parts ∙ rw s.parts (ap (λ t. (t, (parts_of (header_lines (lines_of (drop n bytes)))).1)) (append-nil (take n bytes)));
  after = h.after ∙ s.after;
}

-- Whether bytes start with a continuation line is told by the first of them.
pub is_continuation-line : (n : ℕ) (bytes : List ℕ) → 0 < n → is_continuation (take n bytes) ≡ is_continuation bytes
is_continuation-line zero bytes some = absurd (omega arith)
is_continuation-line (suc n) [] some = refl
is_continuation-line (suc n) (b ∷ bs) some = refl

Stops-of : (bytes : List ℕ) → is_continuation bytes ≡ false → Stops (lines_of bytes)
Stops-of [] c = Stops-none
Stops-of (b ∷ bs) c = by (eqb b 10) (lines_of bs) c
  where
    by : (t : Bool) (ls : List (List ℕ)) → (eqb b 32 || eqb b 9) ≡ false → Stops (cond t ((b ∷ []) ∷ ls) (onto_first b ls))
    by true ls c = Stops-at (b ∷ []) ls c
    by false [] c = Stops-at (b ∷ []) [] c
    by false (l ∷ ls) c = Stops-at (b ∷ l) ls c

pub Continues-stop : (bytes : List ℕ) (n : ℕ) → Continuing bytes n → is_continuation (drop n bytes) ≡ false → Continues bytes n
Continues-stop bytes n h c = from_stops bytes n h (Stops-of (drop n bytes) c)

pub Continues-all : (bytes : List ℕ) (n : ℕ) → Continuing bytes n → length bytes ≤ n → Continues bytes n
Continues-all bytes n h l =
    from_stops bytes n h (let P : List (List ℕ) → Type 0 = λ ls. Stops ls in subst P (sym (ap lines_of (drop_all n bytes l))) Stops-none)

-- A field line and the lines that continue it are the first field.
pub first_field : (text : List ℕ) (n m : ℕ) → 0 < n → n ≤ length text → lines_of text ≡ take n text ∷ lines_of (drop n text)
    → is_field_line (take n text) ≡ true → Continues (drop n text) m → IsFirstField text (n + m)
unfolding fields_of
first_field text n m some within e f h =
    let len : length (take n text) ≡ n = length-take-le n text within in
    let name : prefix_len is_name_byte (take n text) < n = omega (arith, name_within (take n text) f) in
    let two : take n text ++ take m (drop n text) ≡ take (n + m) text = take-two text n m in
    let rest : drop m (drop n text) ≡ drop (n + m) text = drop-drop m n text in
    record {
      some = omega arith;
      within = omega (arith, h.within, length-drop n text);
      colon = omega (arith, ap (prefix_len is_name_byte) (sym two) ∙ prefix_len-within is_name_byte (take n text) (take m (drop n text)) (omega arith));
      fields = ap (λ ls. map field_of (parts_of (header_lines ls)).1) e ∙ rw (f, f, h.parts, two, rest) refl;
      after = ap after_header e ∙ rw f h.after ∙ ap (λ t. after_header (lines_of t)) rest;
    }

-- The text doesn't start with a field.
pub no_field : (text line : List ℕ) (lines : List (List ℕ)) → lines_of text ≡ line ∷ lines → is_field_line line ≡ false → HasNoField text
unfolding fields_of
no_field text line lines e f = record {
  fields = ap (λ ls. map field_of (parts_of (header_lines ls)).1) e ∙ rw f refl;
  after = ap after_header e ∙ rw f (sym e);
}

pub no_field-none : (text : List ℕ) → text ≡ [] → HasNoField text
unfolding fields_of
no_field-none text e = rw e record { fields = refl; after = refl }

-- There are no more fields than bytes.
pub length-fields_of : (text : List ℕ) → length (fields_of text) ≤ length text
unfolding fields_of
length-fields_of text =
    omega (arith, length-map (parts_of (header_lines (lines_of text))).1 field_of, of_parts (header_lines (lines_of text)), of_header (lines_of text), of_lines text)
  where
    of_lines : (xs : List ℕ) → length (lines_of xs) ≤ length xs
    of_lines [] = omega arith
    of_lines (x ∷ xs) = step (eqb x 10) x (lines_of xs) (length xs) (of_lines xs)
      where
        onto : (b n : ℕ) (ls : List (List ℕ)) → length ls ≤ n → length (onto_first b ls) ≤ suc n
        onto b n [] h = omega arith
        onto b n (l ∷ ls) h = omega arith

        step : (t : Bool) (b : ℕ) (ls : List (List ℕ)) (n : ℕ) → length ls ≤ n → length (cond t ((b ∷ []) ∷ ls) (onto_first b ls)) ≤ suc n
        step true b ls n h = omega arith
        step false b ls n h = onto b n ls h

    of_front : (ls : List (List ℕ)) → length (front ls) ≤ length ls
    of_front [] = omega arith
    of_front (l ∷ ls) = step (is_field_line l || is_continuation l) l (front ls) (length ls) (of_front ls)
      where
        step : (t : Bool) (l : List ℕ) (fs : List (List ℕ)) (n : ℕ) → length fs ≤ n → length (cond t (l ∷ fs) []) ≤ suc n
        step true l fs n h = omega arith
        step false l fs n h = omega arith

    of_header : (ls : List (List ℕ)) → length (header_lines ls) ≤ length ls
    of_header [] = omega arith
    of_header (l ∷ ls) = step (is_field_line l) l (front ls) (length ls) (of_front ls)
      where
        step : (t : Bool) (l : List ℕ) (fs : List (List ℕ)) (n : ℕ) → length fs ≤ n → length (cond t (l ∷ fs) []) ≤ suc n
        step true l fs n h = omega arith
        step false l fs n h = omega arith

    of_parts : (ls : List (List ℕ)) → length (parts_of ls).1 ≤ length ls
    of_parts [] = omega arith
    of_parts (l ∷ ls) = step (is_field_line l) l (parts_of ls) (length ls) (of_parts ls)
      where
        step : (t : Bool) (l : List ℕ) (p : List ℕ × List (List ℕ)) (n : ℕ) → length p.1 ≤ n → length (parts_by t l p).1 ≤ suc n
        step true l p n h = omega arith
        step false l p n h = omega arith
