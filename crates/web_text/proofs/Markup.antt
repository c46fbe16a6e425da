-- The markup of texts, titles, ids, names and moments: they have none.
use Rattle.std.proofs.Common.{◌≡◌, ℕ, suc, ◌+◌, ◌/◌, ◌%◌, ◌<◌, ◌≤◌, Bool, true, false, cond, eqb, ltb, List, [], ◌∷◌, ◌++◌, length, get_or, refl, sym, ap, ◌∙◌, arith, append-nil}
use Rattle.std.specs.Prelude.{◌||◌, codes}
use Rattle.std.specs.Char.{encode_utf8}
use Rattle.std.specs.Fmt.{digit_glyph}
use Rattle.std.specs.List.{All, flat_map}
use Rattle.std.specs.Str.{chars}
use Rattle.std.specs.Str.Lossy.{utf8_lossy}
use Rattle.std.proofs.lemmas.Bool.{ne_eqb, or_from}
use Rattle.std.proofs.lemmas.Bool.Decides.{nat_tests}
use Rattle.std.proofs.lemmas.List.Elements.{filter-append}
use Rattle.arch_base.specs.Names.{IsArchiveName, is_name_byte}
use Rattle.mail_date.specs.Dates.{last_second}
use Rattle.web_text.specs.Addresses.{is_plain, in_address, inside, escaped_bytes, address_of}
use Rattle.web_text.specs.Days.{moment_text, page_moment}
use Rattle.web_text.specs.Escapes.{is_excluded, shown, spelled, escaped, escaped_chars, title_of}
use Rattle.web_text.specs.Markup.{is_markup, markup}
use Rattle.web_text.proofs.MomentBytes.{moment_bytes, page_moment_bytes}

-- Bytes without markup.
pub none-append : (a b : List ℕ) → markup a ≡ [] → markup b ≡ [] → markup (a ++ b) ≡ []
none-append a b e f = filter-append is_markup a b ∙ ap (λ t. t ++ markup b) e ∙ f

pub none-cons : (b : ℕ) (bs : List ℕ) → is_markup b ≡ false → markup bs ≡ [] → markup (b ∷ bs) ≡ []
none-cons b bs e f = rw e f

pub none-each : {A : Type 0} (f : A → List ℕ) → ((x : A) → markup (f x) ≡ []) → (xs : List A) → markup (flat_map f xs) ≡ []
none-each f each [] = refl
none-each f each (x ∷ xs) = none-append (f x) (flat_map f xs) (each x) (none-each f each xs)

pub apart : (b : ℕ) → (b ≡ 60 → ⊥) → (b ≡ 62 → ⊥) → (b ≡ 34 → ⊥) → is_markup b ≡ false
apart b f g h = or_from (eqb b 60 || eqb b 62) (eqb b 34) (or_from (eqb b 60) (eqb b 62) (ne_eqb b 60 f) (ne_eqb b 62 g)) (ne_eqb b 34 h)

high : (b : ℕ) → 128 ≤ b → is_markup b ≡ false
high b h = apart b (λ (e : b ≡ 60). omega arith) (λ (e : b ≡ 62). omega arith) (λ (e : b ≡ 34). omega arith)

pub one : (a : ℕ) → is_markup a ≡ false → markup (a ∷ []) ≡ []
one a e = none-cons a [] e refl

two : (a b : ℕ) → 128 ≤ a → 128 ≤ b → markup (a ∷ b ∷ []) ≡ []
two a b h k = none-cons a (b ∷ []) (high a h) (one b (high b k))

encoded_by : (first few some : Bool) (c p q r s t u v w x : ℕ) → is_markup c ≡ false → 128 ≤ p → 128 ≤ q → 128 ≤ r → 128 ≤ s → 128 ≤ t → 128 ≤ u → 128 ≤ v → 128 ≤ w → 128 ≤ x
    → markup (cond first (c ∷ []) (cond few (p ∷ q ∷ []) (cond some (r ∷ s ∷ t ∷ []) (u ∷ v ∷ w ∷ x ∷ [])))) ≡ []
encoded_by true few some c p q r s t u v w x h a b d e f g i j k = one c h
encoded_by false true some c p q r s t u v w x h a b d e f g i j k = two p q a b
encoded_by false false true c p q r s t u v w x h a b d e f g i j k = none-cons r (s ∷ t ∷ []) (high r d) (two s t e f)
encoded_by false false false c p q r s t u v w x h a b d e f g i j k = none-cons u (v ∷ w ∷ x ∷ []) (high u g) (none-cons v (w ∷ x ∷ []) (high v i) (two w x j k))

encoded : (c : ℕ) → is_markup c ≡ false → markup (encode_utf8 c) ≡ []
unfolding encode_utf8
encoded c h =
    encoded_by (ltb c 128) (ltb c 2048) (ltb c 65536) c (192 + c / 64) (128 + c % 64) (224 + c / 4096) (128 + c / 64 % 64) (128 + c % 64) (240 + c / 262144) (128 + c / 4096 % 64) (128 + c / 64 % 64) (128 + c % 64)
    h (omega arith) (omega arith) (omega arith) (omega arith) (omega arith) (omega arith) (omega arith) (omega arith) (omega arith)

-- What a page has for a character.
shown_by : (out : Bool) (c : ℕ) → is_markup c ≡ false → is_markup (cond out 0xFFFD c) ≡ false
shown_by true c h = refl
shown_by false c h = h

spelled_by : (amp less more quote : Bool) (c : ℕ) → eqb c 60 ≡ less → eqb c 62 ≡ more → eqb c 34 ≡ quote
    → markup (cond amp (codes "&amp;") (cond less (codes "&lt;") (cond more (codes "&gt;") (cond quote (codes "&quot;") (encode_utf8 (shown c)))))) ≡ []
spelled_by true less more quote c e f g = refl
spelled_by false true more quote c e f g = refl
spelled_by false false true quote c e f g = refl
spelled_by false false false true c e f g = refl
spelled_by false false false false c e f g =
    encoded (shown c) (shown_by (is_excluded c) c (or_from (eqb c 60 || eqb c 62) (eqb c 34) (or_from (eqb c 60) (eqb c 62) e f) g))

-- A text has none.
pub text_none : (text : List ℕ) → markup (escaped text) ≡ []
unfolding escaped_chars
text_none text = none-each spelled (λ c. spelled_by (eqb c 38) (eqb c 60) (eqb c 62) (eqb c 34) c refl refl refl) (chars (utf8_lossy text))

-- A hexadecimal digit is none, and neither is what stands for any greater number.
pub glyph_by : (small : Bool) (n : ℕ) → ltb n 10 ≡ small → is_markup (cond small (48 + n) (55 + n)) ≡ false
glyph_by true n e =
    let low : n < 10 = grind (arith, nat_tests, e) in
    apart (48 + n) (λ (f : 48 + n ≡ 60). omega arith) (λ (f : 48 + n ≡ 62). omega arith) (λ (f : 48 + n ≡ 34). omega arith)
glyph_by false n e =
    let least : 10 ≤ n = grind (arith, nat_tests, e) in
    apart (55 + n) (λ (f : 55 + n ≡ 60). omega arith) (λ (f : 55 + n ≡ 62). omega arith) (λ (f : 55 + n ≡ 34). omega arith)

escape : (b : ℕ) → markup (37 ∷ digit_glyph true (b / 16) ∷ digit_glyph true (b % 16) ∷ []) ≡ []
escape b =
    none-cons 37 (digit_glyph true (b / 16) ∷ digit_glyph true (b % 16) ∷ []) refl
    (none-cons (digit_glyph true (b / 16)) (digit_glyph true (b % 16) ∷ []) (glyph_by (ltb (b / 16) 10) (b / 16) refl)
    (one (digit_glyph true (b % 16)) (glyph_by (ltb (b % 16) 10) (b % 16) refl)))

-- A byte that passes a test that the bytes of markup fail is none of them.
pub passes : (test : ℕ → Bool) (b : ℕ) → test 60 ≡ false → test 62 ≡ false → test 34 ≡ false → test b ≡ true → is_markup b ≡ false
passes test b f g h s = apart b (fails test b 60 f s) (fails test b 62 g s) (fails test b 34 h s) where
  fails : (test : ℕ → Bool) (b n : ℕ) → test n ≡ false → test b ≡ true → b ≡ n → ⊥
  fails test b n f s e = (let yes : test n ≡ true = ap test (sym e) ∙ s in cc (yes, f))

byte_by : (plain : Bool) (b : ℕ) → is_plain b ≡ plain → markup (cond plain (b ∷ []) (37 ∷ digit_glyph true (b / 16) ∷ digit_glyph true (b % 16) ∷ [])) ≡ []
byte_by true b e = one b (passes is_plain b refl refl refl e)
byte_by false b e = escape b

pub id_none : (id : List ℕ) → markup (address_of id) ≡ []
unfolding escaped_bytes
id_none id = none-each in_address (λ b. byte_by (is_plain b) b refl) (inside id)

-- Bytes of which none is one.
pub none-all : (bs : List ℕ) → All (λ (b : ℕ). is_markup b ≡ false) bs → markup bs ≡ []
none-all [] h = refl
none-all (b ∷ bs) h = none-cons b bs (h 0 b (omega arith)) (none-all bs (λ k d l. h (suc k) d (omega arith)))

-- A name has none.
pub name_none : (name : List ℕ) → IsArchiveName name → markup name ≡ []
name_none name h = none-all name (λ k d l. passes is_name_byte (get_or name k d) refl refl refl (h.bytes k d l))

-- A digit is none.
pub digit : (n : ℕ) → n ≤ 9 → is_markup (48 + n) ≡ false
digit n h = apart (48 + n) (λ (f : 48 + n ≡ 60). omega arith) (λ (f : 48 + n ≡ 62). omega arith) (λ (f : 48 + n ≡ 34). omega arith)

-- A moment in a page has none, and neither has one in a feed.
pub page_moment_none : (secs : ℕ) → secs ≤ last_second → markup (page_moment secs) ≡ []
page_moment_none secs h = none-all (page_moment secs) (page_moment_bytes (λ (b : ℕ). is_markup b ≡ false) digit refl refl refl secs h)

pub moment_none : (secs : ℕ) → secs ≤ last_second → markup (moment_text secs) ≡ []
moment_none secs h = none-all (moment_text secs) (moment_bytes (λ (b : ℕ). is_markup b ≡ false) digit refl refl refl refl secs h)

-- One piece more, by its markup.
pub more : (a b m n : List ℕ) → markup a ≡ m → markup b ≡ n → markup (a ++ b) ≡ m ++ n
more a b m n e f = filter-append is_markup a b ∙ ap (λ t. t ++ markup b) e ∙ ap (λ t. m ++ t) f

-- A piece that has none.
pub and_none : (a b m : List ℕ) → markup a ≡ m → markup b ≡ [] → markup (a ++ b) ≡ m
and_none a b m e f = more a b m [] e f ∙ append-nil m

title_by : (none : Bool) (subject : List ℕ) → markup (cond none (codes "(no subject)") (escaped subject)) ≡ []
title_by true subject = refl
title_by false subject = text_none subject

pub title_none : (subject : List ℕ) → markup (title_of subject) ≡ []
title_none subject = title_by (eqb (length subject) 0) subject
