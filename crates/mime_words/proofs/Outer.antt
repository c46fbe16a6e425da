-- Text outside of words that are read.
use Rattle.std.proofs.Common.{◌≡◌, ◌⊎◌, inl, inr, ◌≤◌, ◌+◌, ◌∙◌, ℕ, suc, Bool, true, false, cond, not, ◌&&◌, ◌||◌, ◌==◌, codes, Option, List, [], ◌∷◌, ◌++◌, length, take, drop, get_or, Some, None, refl, ap, sym, append_assoc, length-append, arith}
use Rattle.std.specs.List.{list_all, All}
use Rattle.std.specs.Char.{to_ascii_lowercase}
use Rattle.std.specs.Str.{str_to_ascii_lowercase, bytes_eq}
use Rattle.std.proofs.lemmas.Bool.{false_from_ne_true, both_ways, eqb-true, and_parts}
use Rattle.std.proofs.lemmas.Bool.Decides.{nat_tests}
use Rattle.std.proofs.lemmas.List.{drop_at, take_at}
use Rattle.std.proofs.lemmas.List.Sums.{AllPass-from_list_all, list_all-from_AllPass}
use Rattle.std.proofs.lemmas.Slice.Eq.{bytes_eq-Decides}
use Rattle.mime_words.specs.declared.charset.Charset.{Charset}
use Rattle.mime_words.specs.declared.charset.Charset.TheVariants.{Utf8, UsAscii, Latin1}
use Rattle.mime_words.specs.declared.encoding.Encoding.{Encoding}
use Rattle.mime_words.specs.declared.encoding.Encoding.TheVariants.{Base64, Quoted}
use Rattle.mime_words.specs.Words.{EncodedText, charset_of, is_charset_byte, is_text_byte, encoding_of, word_at, word_len, plain, pieces}
use Rattle.mime_words.specs.Laws.{HasNoOpening, IsSpelled}
use Rattle.mime_words.specs.Spelled.{NamesCharset, AnyWord, any_bytes, IsCharsetByte, IsTextByte, IsAnyWord, BeginsNoWord, OuterPart, Stretch, Foreign, Stray, outer_text, IsNoStretch, AreOuter}
use Rattle.mime_words.proofs.Cutting.{pieces-no_word, pieces-text_word, plain-append}
use Rattle.mime_words.proofs.Joining.{piece}
use Rattle.mime_words.proofs.Plain.{no_word}
use Rattle.mime_words.proofs.Quoting.{and_true}
use Rattle.mime_words.proofs.Spelling.{spelled, found}

-- A byte of a name in small letters is a byte of a name.
small_byte : (b : ℕ) → is_charset_byte (to_ascii_lowercase b) ≡ true → is_charset_byte b ≡ true
small_byte b h = step (b == 63) (b == 32) refl refl
  where
    step : (t u : Bool) → (b == 63) ≡ t → (b == 32) ≡ u → (not t && not u) ≡ true
    step true u e f = absurd (both_ways (is_charset_byte (to_ascii_lowercase b)) (ap (λ c. is_charset_byte (to_ascii_lowercase c)) (eqb-true b 63 e)) h)
    step false true e f = absurd (both_ways (is_charset_byte (to_ascii_lowercase b)) (ap (λ c. is_charset_byte (to_ascii_lowercase c)) (eqb-true b 32 f)) h)
    step false false e f = refl

pub small_bytes : (name : List ℕ) → list_all is_charset_byte (str_to_ascii_lowercase name) ≡ true → list_all is_charset_byte name ≡ true
small_bytes [] h = refl
small_bytes (b ∷ bs) h =
    let both = and_parts (is_charset_byte (to_ascii_lowercase b)) (list_all is_charset_byte (str_to_ascii_lowercase bs)) h in
    and_true (is_charset_byte b) _ (small_byte b both.0) (small_bytes bs both.1)

-- The charset of a name in small letters.
abbrev pub small_charset : List ℕ → Option Charset
small_charset small =
    cond (bytes_eq small (str_to_ascii_lowercase (codes "utf-8"))) (Some Utf8)
    (cond (bytes_eq small (str_to_ascii_lowercase (codes "us-ascii"))) (Some UsAscii)
    (cond (bytes_eq small (str_to_ascii_lowercase (codes "iso-8859-1"))) (Some Latin1) None))

-- A name of no charset that is read.
no_charset : (small : List ℕ) → (small ≡ codes "utf-8" → ⊥) → (small ≡ codes "us-ascii" → ⊥) → (small ≡ codes "iso-8859-1" → ⊥)
    → small_charset small ≡ None
no_charset small x y z =
    let a : bytes_eq small (codes "utf-8") ≡ false = false_from_ne_true (bytes_eq small (codes "utf-8")) (λ e. x ((bytes_eq-Decides small (codes "utf-8")).0 e)) in
    let b : bytes_eq small (codes "us-ascii") ≡ false = false_from_ne_true (bytes_eq small (codes "us-ascii")) (λ e. y ((bytes_eq-Decides small (codes "us-ascii")).0 e)) in
    let c : bytes_eq small (codes "iso-8859-1") ≡ false = false_from_ne_true (bytes_eq small (codes "iso-8859-1")) (λ e. z ((bytes_eq-Decides small (codes "iso-8859-1")).0 e)) in
    by_tests (bytes_eq small (codes "utf-8")) (bytes_eq small (codes "us-ascii")) (bytes_eq small (codes "iso-8859-1")) a b c
  where
    by_tests : (t u v : Bool) → t ≡ false → u ≡ false → v ≡ false → cond t (Some Utf8) (cond u (Some UsAscii) (cond v (Some Latin1) None)) ≡ None
    by_tests t u v e f g = rw (e, f, g) refl

unread : (name : List ℕ) → ((charset : Charset) → NamesCharset charset name → ⊥) → charset_of name ≡ None
unread name h = no_charset (str_to_ascii_lowercase name) (h Utf8) (h UsAscii) (h Latin1)

-- The tests on bytes.
name_byte_passes : (b : ℕ) → IsCharsetByte b → is_charset_byte b ≡ true
name_byte_passes b h = grind (arith, nat_tests)

text_byte_passes : (b : ℕ) → IsTextByte b → is_text_byte b ≡ true
text_byte_passes b h = grind (arith, nat_tests)

passed_name_byte : (b : ℕ) → is_charset_byte b ≡ true → IsCharsetByte b
passed_name_byte b h = ((λ e. both_ways (is_charset_byte b) (ap is_charset_byte e) h), (λ e. both_ways (is_charset_byte b) (ap is_charset_byte e) h))

passed_text_byte : (b : ℕ) → is_text_byte b ≡ true → IsTextByte b
passed_text_byte b h =
    let low : 33 ≤ b = grind (arith, nat_tests) in
    let high : b ≤ 126 = grind (arith, nat_tests) in
    (low, high, (λ e. both_ways (is_text_byte b) (ap is_text_byte e) h))

name_passes : (name : List ℕ) → All IsCharsetByte name → list_all is_charset_byte name ≡ true
name_passes name h = list_all-from_AllPass is_charset_byte name (λ k d l. name_byte_passes (get_or name k d) (h k d l))

pub text_passes : (text : List ℕ) → All IsTextByte text → list_all is_text_byte text ≡ true
text_passes text h = list_all-from_AllPass is_text_byte text (λ k d l. text_byte_passes (get_or text k d) (h k d l))

passed_name : (name : List ℕ) → list_all is_charset_byte name ≡ true → All IsCharsetByte name
passed_name name h = λ k d l. passed_name_byte (get_or name k d) (AllPass-from_list_all is_charset_byte name h k d l)

passed_text : (text : List ℕ) → list_all is_text_byte text ≡ true → All IsTextByte text
passed_text text h = λ k d l. passed_text_byte (get_or text k d) (AllPass-from_list_all is_text_byte text h k d l)

-- The encoding's letters.
abbrev IsAnyLetter : ℕ → Type 0
IsAnyLetter b = ((b ≡ 66) ⊎ (b ≡ 98)) ⊎ ((b ≡ 81) ⊎ (b ≡ 113))

letter_read : (b : ℕ) → IsAnyLetter b → (encoding : Encoding) × (encoding_of b ≡ Some encoding)
letter_read b (inl (inl e)) = (Base64, ap encoding_of e)
letter_read b (inl (inr e)) = (Base64, ap encoding_of e)
letter_read b (inr (inl e)) = (Quoted, ap encoding_of e)
letter_read b (inr (inr e)) = (Quoted, ap encoding_of e)

read_letter : (b : ℕ) (encoding : Encoding) → encoding_of b ≡ Some encoding → IsAnyLetter b
read_letter b encoding h = step (b == 66) (b == 98) (b == 81) (b == 113) refl refl refl refl h
  where
    step : (t u v w : Bool) → (b == 66) ≡ t → (b == 98) ≡ u → (b == 81) ≡ v → (b == 113) ≡ w
        → cond (t || u) (Some Base64) (cond (v || w) (Some Quoted) None) ≡ Some encoding → IsAnyLetter b
    step true u v w e f g i h = inl (inl (eqb-true b 66 e))
    step false true v w e f g i h = inl (inr (eqb-true b 98 f))
    step false false true w e f g i h = inr (inl (eqb-true b 81 g))
    step false false false true e f g i h = inr (inr (eqb-true b 113 i))
    step false false false false e f g i h = cc

-- A word of any charset, as it is found.
any_found : (word : AnyWord) → IsAnyWord word → (ys : List ℕ)
    → (encoding : Encoding) × (word_at (any_bytes word ++ ys) ≡ Some (record { charset = word.name; encoding = encoding; text = word.text }))
any_found word w ys =
    let letter = letter_read word.letter w.letter in
    let all : any_bytes word ++ ys ≡ 61 ∷ 63 ∷ (word.name ++ (63 ∷ word.letter ∷ 63 ∷ (word.text ++ (63 ∷ 61 ∷ ys)))) = simp append_assoc in (
      letter.0,
      spelled (any_bytes word ++ ys) (record { charset = word.name; encoding = letter.0; text = word.text })
          (record {
            letter = word.letter;
            after = ys;
            spelling = all;
            named = w.some;
            name = name_passes word.name w.name;
            encoding = letter.1;
            text = text_passes word.text w.text;
          }),
    )

-- What is found is a word of some charset.
found_any : (bytes : List ℕ) (word : EncodedText) → word_at bytes ≡ Some word → BeginsNoWord bytes → ⊥
found_any bytes word e none =
    let s : IsSpelled bytes word = found bytes word e in
    let any : AnyWord = record { name = word.charset; letter = s.letter; text = word.text } in
    let all : any_bytes any ++ s.after ≡ 61 ∷ 63 ∷ (word.charset ++ (63 ∷ s.letter ∷ 63 ∷ (word.text ++ (63 ∷ 61 ∷ s.after)))) = simp append_assoc in
    none any s.after
    (record {
      some = s.named;
      name = passed_name word.charset s.name;
      letter = read_letter s.letter word.encoding s.encoding;
      text = passed_text word.text s.text;
    })
    (s.spelling ∙ sym all)

begins_none : (bytes : List ℕ) → BeginsNoWord bytes → word_at bytes ≡ None
begins_none bytes none = step (word_at bytes) refl
  where
    step : (o : Option EncodedText) → word_at bytes ≡ o → o ≡ None
    step None e = refl
    step (Some word) e = absurd (found_any bytes word e none)

any_len : (word : AnyWord) (encoding : Encoding) → length (any_bytes word) ≡ word_len (record { charset = word.name; encoding = encoding; text = word.text })
any_len word encoding =
    let text = word.text ++ 63 ∷ 61 ∷ [] in
    let inner : length text ≡ length word.text + 2 = length-append word.text (63 ∷ 61 ∷ []) in
    let outer : length (word.name ++ 63 ∷ word.letter ∷ 63 ∷ text) ≡ length word.name + length (63 ∷ word.letter ∷ 63 ∷ text) = length-append word.name (63 ∷ word.letter ∷ 63 ∷ text) in
    omega arith

-- A word of a charset that isn't read.
pieces_foreign : (word : AnyWord) → IsAnyWord word → ((charset : Charset) → NamesCharset charset word.name → ⊥) → (ys : List ℕ)
    → pieces (any_bytes word ++ ys) ≡ plain (any_bytes word) ++ pieces ys
pieces_foreign word w none ys =
    let at = any_found word w ys in
    let shown : EncodedText = record { charset = word.name; encoding = at.0; text = word.text } in
    let front : take (word_len shown) (any_bytes word ++ ys) ≡ any_bytes word = take_at (any_bytes word) ys (word_len shown) (any_len word at.0) in
    let after : drop (word_len shown) (any_bytes word ++ ys) ≡ ys = drop_at (any_bytes word) ys (word_len shown) (any_len word at.0) in
    pieces-text_word (any_bytes word ++ ys) shown (omega arith) at.1 (unread word.name none)
    ∙ (λ i. plain (front i) ++ pieces (after i))

-- Bytes without `=?` before other bytes.
pieces_stretch : (text ys : List ℕ) → HasNoOpening text → (get_or ys 0 0 ≡ 63 → ⊥) → pieces (text ++ ys) ≡ plain text ++ pieces ys
pieces_stretch [] ys h e = refl
pieces_stretch (b ∷ bs) ys h e =
    let later : HasNoOpening bs = λ k x y. h (suc k) x (let f : suc k + 1 ≡ suc (k + 1) = omega arith in rw f y) in
    pieces-no_word (b ∷ (bs ++ ys)) (omega arith) (no_word b (bs ++ ys) (next bs (h 0))) ∙ ap (λ ps. piece None (b ∷ []) ∷ ps) (pieces_stretch bs ys later e)
  where
    next : (cs : List ℕ) → (get_or (b ∷ cs) 0 0 ≡ 61 → get_or (b ∷ cs) (0 + 1) 0 ≡ 63 → ⊥) → b ≡ 61 → get_or (cs ++ ys) 0 0 ≡ 63 → ⊥
    next [] f x y = e y
    next (c ∷ cs) f x y = f x y

-- `=` that begins no word.
pieces_stray : (ys : List ℕ) → BeginsNoWord (61 ∷ ys) → pieces (61 ∷ ys) ≡ plain (61 ∷ []) ++ pieces ys
pieces_stray ys none = pieces-no_word (61 ∷ ys) (omega arith) (begins_none (61 ∷ ys) none)

-- The whole of a text.
one_more : (front : List ℕ) (later : List OuterPart) (ys : List ℕ) → pieces (front ++ (outer_text later ++ ys)) ≡ plain front ++ pieces (outer_text later ++ ys)
    → pieces (outer_text later ++ ys) ≡ plain (outer_text later) ++ pieces ys
    → pieces ((front ++ outer_text later) ++ ys) ≡ plain (front ++ outer_text later) ++ pieces ys
one_more front later ys here more =
    ap pieces (append_assoc front (outer_text later) ys) ∙ here ∙ ap (λ ps. plain front ++ ps) more
    ∙ sym (append_assoc (plain front) (plain (outer_text later)) (pieces ys)) ∙ ap (λ ps. ps ++ pieces ys) (sym (plain-append front (outer_text later)))

begins : (later : List OuterPart) (ys : List ℕ) → IsNoStretch later → (get_or ys 0 0 ≡ 63 → ⊥) → get_or (outer_text later ++ ys) 0 0 ≡ 63 → ⊥
begins [] ys none e h = e h
begins (Stretch text ∷ later) ys none e h = none
begins (Foreign word ∷ later) ys none e h = omega arith
begins (Stray ∷ later) ys none e h = omega arith

pub pieces_outer : (parts : List OuterPart) (ys : List ℕ) → AreOuter parts ys → (get_or ys 0 0 ≡ 63 → ⊥)
    → pieces (outer_text parts ++ ys) ≡ plain (outer_text parts) ++ pieces ys
pieces_outer [] ys all e = refl
pieces_outer (Stretch text ∷ later) ys all e =
    one_more text later ys (pieces_stretch text (outer_text later ++ ys) all.0 (begins later ys all.1 e)) (pieces_outer later ys all.2 e)
pieces_outer (Foreign word ∷ later) ys all e =
    one_more (any_bytes word) later ys (pieces_foreign word all.0 all.1 (outer_text later ++ ys)) (pieces_outer later ys all.2 e)
pieces_outer (Stray ∷ later) ys all e =
    one_more (61 ∷ []) later ys (pieces_stray (outer_text later ++ ys) all.0) (pieces_outer later ys all.1 e)
