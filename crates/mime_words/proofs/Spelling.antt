-- A word is found exactly if the bytes start with its form.
use Rattle.std.proofs.Common.{◌≡◌, ◌<◌, ◌+◌, ◌∙◌, ℕ, suc, Bool, true, false, cond, ◌&&◌, nat_eq, List, [], ◌∷◌, ◌++◌, length, take, drop, get_or, Option, Some, None, option_and_then, refl, ap, sym, subst, arith, eqb-true}
use Rattle.std.specs.List.{prefix_len, list_all}
use Rattle.std.proofs.Math.Seq.{take-append_seam, drop-append_seam, drop-append-add}
use Rattle.std.proofs.lemmas.Bool.{and_parts, eqb-false}
use Rattle.std.proofs.lemmas.List.{drop-drop, take-append-drop, get_or-take}
use Rattle.std.proofs.lemmas.List.Folds.{length-prefix_len}
use Rattle.std.proofs.lemmas.List.Sums.{prefix_len_passes, list_all-from_AllPass}
use Rattle.mime_words.specs.declared.encoding.Encoding.{Encoding}
use Rattle.mime_words.specs.Words.{EncodedText, is_charset_byte, is_text_byte, encoding_of, encoding_at, after_opening, is_closing, closed_word, opened_word, word_at}
use Rattle.mime_words.specs.Laws.{IsSpelled}
use Rattle.mime_words.proofs.Opening.{opened_at, opened_at-is}

-- A run of bytes that pass, and one after it that doesn't.
run_by : (t : Bool) (n m : ℕ) → t ≡ true → n ≡ m → cond t (1 + n) 0 ≡ suc m
run_by true n m e h = omega arith
run_by false n m e h = cc

run : (p : ℕ → Bool) (xs ys : List ℕ) (b : ℕ) → list_all p xs ≡ true → p b ≡ false → prefix_len p (xs ++ b ∷ ys) ≡ length xs
run p [] ys b all stop = ap (λ t. cond t (1 + prefix_len p ys) 0) stop
run p (x ∷ xs) ys b all stop =
    let parts : (p x ≡ true) × (list_all p xs ≡ true) = and_parts (p x) (list_all p xs) all in
    run_by (p x) (prefix_len p (xs ++ b ∷ ys)) (length xs) parts.0 (run p xs ys b parts.1 stop)

-- The bytes of a run pass.
passes : (p : ℕ → Bool) (xs : List ℕ) → list_all p (take (prefix_len p xs) xs) ≡ true
passes p xs =
    let n = prefix_len p xs in
    list_all-from_AllPass p (take n xs) (λ k d l.
    let below : k < n = omega (arith, length-prefix_len p xs) in
    ap p (get_or-take n xs k d below) ∙ prefix_len_passes p xs k d below)

-- A word whose encoded text has this length.
abbrev closed_at : ℕ → List ℕ → List ℕ → Encoding → Option EncodedText
closed_at n charset after encoding =
    cond (is_closing (drop n after)) (Some (record { charset = charset; encoding = encoding; text = take n after })) None

-- A word that is written is found.
closes : (charset text after : List ℕ) (encoding : Encoding) → list_all is_text_byte text ≡ true
    → closed_word charset (text ++ 63 ∷ 61 ∷ after) encoding ≡ Some (record { charset = charset; encoding = encoding; text = text })
closes charset text after encoding all =
    let end = text ++ 63 ∷ 61 ∷ after in
    ap (λ n. closed_at n charset end encoding) (run is_text_byte text (61 ∷ after) 63 all refl)
    ∙ ap (λ rest. cond (is_closing rest) (Some (record { charset = charset; encoding = encoding; text = take (length text) end })) None)
    (drop-append_seam text (63 ∷ 61 ∷ after))
    ∙ ap (λ front. Some (record { charset = charset; encoding = encoding; text = front })) (take-append_seam text (63 ∷ 61 ∷ after))

opens : (charset tail : List ℕ) (letter : ℕ) (encoding : Encoding) → 0 < length charset → list_all is_charset_byte charset ≡ true
    → encoding_of letter ≡ Some encoding → opened_word (charset ++ 63 ∷ letter ∷ 63 ∷ tail) ≡ closed_word charset tail encoding
opens charset tail letter encoding named all is =
    let after = 63 ∷ letter ∷ 63 ∷ tail in
    let inside = charset ++ after in
    let some : length charset ≡ 0 → ⊥ = λ none. omega arith in
    let front : take (length charset) inside ≡ charset = take-append_seam charset after in
    let back : drop (length charset + 3) inside ≡ tail = drop-append-add charset after 3 in
    ap (λ n. opened_at n inside) (run is_charset_byte charset (letter ∷ 63 ∷ tail) 63 all refl)
    ∙ opened_at-is (length charset) inside encoding some (ap encoding_at (drop-append_seam charset after) ∙ is)
    ∙ (λ i. closed_word (front i) (back i) encoding)

pub spelled : (bytes : List ℕ) (word : EncodedText) → IsSpelled bytes word → word_at bytes ≡ Some word
spelled bytes word s =
    ap word_at s.spelling
    ∙ opens word.charset (word.text ++ 63 ∷ 61 ∷ s.after) s.letter word.encoding s.named s.name s.encoding
    ∙ closes word.charset word.text s.after word.encoding s.text

-- What an answer says of the tests before it.
none-some : {Y : Type 0} {y : Y} → None ≡ Some y → ⊥
none-some e = cc

then_some : {X Y : Type 0} (o : Option X) (f : X → Option Y) (y : Y) → option_and_then f o ≡ Some y → (x : X) × ((o ≡ Some x) × (f x ≡ Some y))
then_some None f y e = absurd (none-some e)
then_some (Some x) f y e = (x, (refl, e))

if_true : {Y : Type 0} (t : Bool) (o : Option Y) (y : Y) → cond t o None ≡ Some y → (t ≡ true) × (o ≡ Some y)
if_true true o y e = (refl, e)
if_true false o y e = absurd (none-some e)

if_false : {Y : Type 0} (t : Bool) (o : Option Y) (y : Y) → cond t None o ≡ Some y → (t ≡ false) × (o ≡ Some y)
if_false true o y e = absurd (none-some e)
if_false false o y e = (refl, e)

-- Bytes that start with two given bytes, and with three.
two : (xs : List ℕ) (a b : ℕ) → get_or xs 0 0 ≡ suc a → get_or xs 1 0 ≡ suc b → xs ≡ suc a ∷ suc b ∷ drop 2 xs
two [] a b x y = absurd (omega arith)
two (c ∷ []) a b x y = absurd (omega arith)
two (c ∷ d ∷ xs) a b x y = λ i. x i ∷ y i ∷ xs

three : (xs : List ℕ) → get_or xs 0 0 ≡ 63 → get_or xs 2 0 ≡ 63 → xs ≡ 63 ∷ get_or xs 1 0 ∷ 63 ∷ drop 3 xs
three [] x y = absurd (omega arith)
three (b ∷ []) x y = absurd (omega arith)
three (b ∷ c ∷ []) x y = absurd (omega arith)
three (b ∷ c ∷ d ∷ xs) x y = λ i. x i ∷ c ∷ y i ∷ xs

both_eq : (x y a b : ℕ) → (nat_eq x a && nat_eq y b) ≡ true → (x ≡ a) × (y ≡ b)
both_eq x y a b h =
    let parts : (nat_eq x a ≡ true) × (nat_eq y b ≡ true) = and_parts (nat_eq x a) (nat_eq y b) h in
    (eqb-true x a parts.0, eqb-true y b parts.1)

opening : (bytes inside : List ℕ) → after_opening bytes ≡ Some inside → bytes ≡ 61 ∷ 63 ∷ inside
opening bytes inside e =
    let parts : ((nat_eq (get_or bytes 0 0) 61 && nat_eq (get_or bytes 1 0) 63) ≡ true) × (Some (drop 2 bytes) ≡ Some inside) = if_true _ _ _ e in
    let ends : (get_or bytes 0 0 ≡ 61) × (get_or bytes 1 0 ≡ 63) = both_eq _ _ 61 63 parts.0 in
    let rest : drop 2 bytes ≡ inside = cc (parts.1) in
    two bytes 60 62 ends.0 ends.1 ∙ ap (λ xs. 61 ∷ 63 ∷ xs) rest

lettered : (xs : List ℕ) (encoding : Encoding) → encoding_at xs ≡ Some encoding
    → (xs ≡ 63 ∷ get_or xs 1 0 ∷ 63 ∷ drop 3 xs) × (encoding_of (get_or xs 1 0) ≡ Some encoding)
lettered xs encoding e =
    let parts : ((nat_eq (get_or xs 0 0) 63 && nat_eq (get_or xs 2 0) 63) ≡ true) × (encoding_of (get_or xs 1 0) ≡ Some encoding) = if_true _ _ _ e in
    let ends : (get_or xs 0 0 ≡ 63) × (get_or xs 2 0 ≡ 63) = both_eq _ _ 63 63 parts.0 in
    (three xs ends.0 ends.1, parts.1)

closing : (xs : List ℕ) → is_closing xs ≡ true → xs ≡ 63 ∷ 61 ∷ drop 2 xs
closing xs e = let ends : (get_or xs 0 0 ≡ 63) × (get_or xs 1 0 ≡ 61) = both_eq _ _ 63 61 e in two xs 62 60 ends.0 ends.1

-- A word that is found is written there.
found_at : (bytes inside end : List ℕ) (n m : ℕ) (encoding : Encoding) → n ≡ prefix_len is_charset_byte inside → (n ≡ 0 → ⊥)
    → end ≡ drop (n + 3) inside → m ≡ prefix_len is_text_byte end → bytes ≡ 61 ∷ 63 ∷ inside → encoding_at (drop n inside) ≡ Some encoding
    → is_closing (drop m end) ≡ true → IsSpelled bytes (record { charset = take n inside; encoding = encoding; text = take m end })
found_at bytes inside end n m encoding is_n some is_end is_m whole e closed =
    let after = drop n inside in
    let at : (after ≡ 63 ∷ get_or after 1 0 ∷ 63 ∷ drop 3 after) × (encoding_of (get_or after 1 0) ≡ Some encoding) = lettered after encoding e in
    let tail : drop 3 after ≡ take m end ++ 63 ∷ 61 ∷ drop 2 (drop m end) =
    drop-drop 3 n inside ∙ sym is_end ∙ sym (take-append-drop m end) ∙ ap (λ xs. take m end ++ xs) (closing (drop m end) closed) in
    let name_len : length (take n inside) ≡ n =
    ap (λ k. length (take k inside)) is_n ∙ length-prefix_len is_charset_byte inside ∙ sym is_n in
    record {
      letter = get_or after 1 0;
      after = drop 2 (drop m end);
      spelling = whole ∙ ap (λ xs. 61 ∷ 63 ∷ xs) (sym (take-append-drop n inside) ∙ ap (λ xs. take n inside ++ xs) (at.0 ∙ ap (λ xs. 63 ∷ get_or after 1 0 ∷ 63 ∷ xs) tail));
      named = let some_len : n ≡ 0 → ⊥ = some in omega arith;
      name = ap (λ k. list_all is_charset_byte (take k inside)) is_n ∙ passes is_charset_byte inside;
      encoding = at.1;
      text = ap (λ k. list_all is_text_byte (take k end)) is_m ∙ passes is_text_byte end;
    }

pub found : (bytes : List ℕ) (word : EncodedText) → word_at bytes ≡ Some word → IsSpelled bytes word
found bytes word e =
    let opened : (inside : List ℕ) × ((after_opening bytes ≡ Some inside) × (opened_word inside ≡ Some word)) = then_some (after_opening bytes) opened_word word e in
    let inside = opened.0 in
    let n = prefix_len is_charset_byte inside in
    let end = drop (n + 3) inside in
    let m = prefix_len is_text_byte end in
    let named : (nat_eq n 0 ≡ false) × (option_and_then (closed_word (take n inside) end) (encoding_at (drop n inside)) ≡ Some word) = if_false _ _ _ opened.1.1 in
    let lettered : (encoding : Encoding) × ((encoding_at (drop n inside) ≡ Some encoding) × (closed_word (take n inside) end encoding ≡ Some word)) =
    then_some (encoding_at (drop n inside)) (closed_word (take n inside) end) word named.1 in
    let made : EncodedText = record { charset = take n inside; encoding = lettered.0; text = take m end } in
    let closed : (is_closing (drop m end) ≡ true) × (Some made ≡ Some word) = if_true _ _ _ lettered.1.1 in
    let same : made ≡ word = cc (closed.1) in
    subst (λ (w : EncodedText). IsSpelled bytes w) same
    (found_at bytes inside end n m lettered.0 refl (eqb-false n 0 named.0) refl refl (opening bytes inside opened.1.0) lettered.1.0 closed.0)
