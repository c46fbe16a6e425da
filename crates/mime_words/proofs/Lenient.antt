-- The kit's engine returns the bytes of symbols if no symbol is alone after groups of four.
use Rattle.std.proofs.Common.{◌≡◌, ◌≢◌, ◌<◌, ◌≤◌, ◌+◌, ◌-◌, ◌*◌, ◌/◌, ◌%◌, ◌∙◌, ℕ, zero, suc, Bool, true, false, cond, not, ◌&&◌, ◌==◌, nat_lt, nat_eq, List, [], ◌∷◌, ◌++◌, map, length, take, drop, get_or, Option, Some, None, is_some, Result, Ok, Err, refl, sym, ap, subst, append_assoc, arith, eqb-true, length-drop, ⊎_elim}
use Rattle.std.specs.List.{list_all}
use Rattle.std.proofs.lemmas.Bool.{agree_below_at, and_parts, cases_lt}
use Rattle.std.proofs.lemmas.Bool.Decides.{nat_tests}
use Rattle.base64.specs.Tables.{all_below, decodes_symbol}
use Rattle.base64.specs.declared.decode.DecodeError.{DecodeError}
use Rattle.base64.specs.declared.decode.DecodeError.TheVariants.{InvalidByte, InvalidLength}
use Rattle.base64.specs.declared.engine.DecodePaddingMode.TheVariants.{Indifferent}
use Rattle.base64.specs.declared.engine.general_purpose.GeneralPurpose.{GeneralPurpose}
use Rattle.base64.specs.Engines.{standard}
use Rattle.base64.specs.Decode.{decode_group, groups_error, group_bytes, groups_bytes, or_else, lone_error, no_leftover, scan, scan_steps, push_leftover, suffix_error, suffix_bytes, scan_bytes, scan_error, decode_error, decoded_bytes, decode_outcome}
use Rattle.base64.specs.GeneralPurpose.{decode_of}
use Rattle.mime_words.specs.Base64.{six_bits, is_symbol, sextets, packed}
use Rattle.mime_words.specs.Engine.{IsLenient}

-- What a decoding table says of a symbol.
record Reads (dec : List ℕ) (b : ℕ) : Type 0 where
  bits : six_bits b ≡ Some (get_or dec b 0)
  below : get_or dec b 0 < 64
  plain : (b == 61) ≡ false
  some : (get_or dec b 0 == 255) ≡ false

abbrev AllRead : List ℕ → List ℕ → Type 0
AllRead dec [] = Unit {0}
AllRead dec (b ∷ bs) = Reads dec b × AllRead dec bs

below_all : (p : ℕ → Bool) (n i : ℕ) → all_below p n ≡ true → i < n → p i ≡ true
below_all p zero i all l = absurd (omega arith)
below_all p (suc n) i all l = by (i == n) refl (below_all p n i (and_parts (p n) (all_below p n) all).1)
  where
    other : (i == n) ≡ false → i < n
    other e = grind (arith, nat_tests)

    by : (t : Bool) → (i == n) ≡ t → (i < n → p i ≡ true) → p i ≡ true
    by true e later = ap p (eqb-true i n e) ∙ (and_parts (p n) (all_below p n) all).0
    by false e later = later (other e)

-- The standard symbols are those of the six bits.
abbrev stands_at : Option ℕ → ℕ → Bool
stands_at None b = true
stands_at (Some v) b = nat_eq (get_or standard.encode_table v 0) b && nat_lt v 64 && not (b == 61)

stands : (b : ℕ) → b < 256 → stands_at (six_bits b) b ≡ true
stands b l = agree_below_at (λ c. stands_at (six_bits c) c) (λ _. true) 256 b refl l

symbol_below : (b : ℕ) → is_symbol b ≡ true → b < 256
symbol_below b h = grind (arith, nat_tests)

reads_at : (dec : List ℕ) → ((i : ℕ) → i < 64 → get_or dec (get_or standard.encode_table i 0) 0 ≡ i) → (b : ℕ) (o : Option ℕ) → six_bits b ≡ o → is_some o ≡ true
    → stands_at o b ≡ true → Reads dec b
reads_at dec inverse b None e s h = absurd (none s)
  where
    none : false ≡ true → ⊥
    none x = cc
reads_at dec inverse b (Some v) e s h =
    let first = and_parts (nat_eq (get_or standard.encode_table v 0) b && nat_lt v 64) (not (b == 61)) h in
    let parts = and_parts (nat_eq (get_or standard.encode_table v 0) b) (nat_lt v 64) first.0 in
    let at : get_or standard.encode_table v 0 ≡ b = eqb-true (get_or standard.encode_table v 0) b parts.0 in
    let low : v < 64 = lower v parts.1 in
    let is : get_or dec b 0 ≡ v = ap (λ c. get_or dec c 0) (sym at) ∙ inverse v low in
    record {
      bits = e ∙ ap Some (sym is);
      below = subst (λ (n : ℕ). n < 64) (sym is) low;
      plain = negated (b == 61) first.1;
      some = ap (λ n. n == 255) is ∙ high v low;
    }
  where
    lower : (n : ℕ) → nat_lt n 64 ≡ true → n < 64
    lower n x = grind (arith, nat_tests)

    high : (n : ℕ) → n < 64 → (n == 255) ≡ false
    high n x = grind (arith, nat_tests)

    negated : (t : Bool) → not t ≡ true → t ≡ false
    negated true x = cc
    negated false x = refl

all_read : (dec : List ℕ) → ((i : ℕ) → i < 64 → get_or dec (get_or standard.encode_table i 0) 0 ≡ i) → (xs : List ℕ) → list_all is_symbol xs ≡ true → AllRead dec xs
all_read dec inverse [] h = tt
all_read dec inverse (x ∷ xs) h =
    let parts = and_parts (is_symbol x) (list_all is_symbol xs) h in
    (reads_at dec inverse x (six_bits x) refl parts.0 (stands x (symbol_below x parts.0)), all_read dec inverse xs parts.1)

sextets_read : (dec xs : List ℕ) → AllRead dec xs → sextets xs ≡ map (λ b. get_or dec b 0) xs
sextets_read dec [] r = refl
sextets_read dec (x ∷ xs) r =
    let plain = r.0.plain in
    let bits = r.0.bits in
    rw (plain, bits) (ap (λ ys. get_or dec x 0 ∷ ys) (sextets_read dec xs r.1))

-- No group has an error.
no_error_at : (dec s : List ℕ) (i : ℕ) → AllRead dec s → i < length s → (get_or dec (get_or s i 0) 0 == 255) ≡ false
no_error_at dec [] i r l = absurd (omega arith)
no_error_at dec (x ∷ xs) zero r l = r.0.some
no_error_at dec (x ∷ xs) (suc i) r l = no_error_at dec xs i r.1 (omega arith)

groups_fine : (dec s : List ℕ) (q : ℕ) → AllRead dec s → 4 * q ≤ length s → groups_error dec s q ≡ None
unfolding groups_error
groups_fine dec s zero r l = refl
groups_fine dec s (suc q) r l =
    let before : groups_error dec s q ≡ None = groups_fine dec s q r (omega arith) in
    let e0 = no_error_at dec s (4 * q) r (omega arith) in
    let e1 = no_error_at dec s (4 * q + 1) r (omega arith) in
    let e2 = no_error_at dec s (4 * q + 2) r (omega arith) in
    let e3 = no_error_at dec s (4 * q + 3) r (omega arith) in
    rw (before, e0, e1, e2, e3) refl

-- The groups after the first one.
group_after : (dec s : List ℕ) (a b c d m : ℕ) → group_bytes dec (a ∷ b ∷ c ∷ d ∷ s) (suc (suc (suc (suc m)))) ≡ group_bytes dec s m
group_after dec s a b c d m =
    let e1 : suc (suc (suc (suc m))) + 1 ≡ suc (suc (suc (suc (m + 1)))) = omega arith in
    let e2 : suc (suc (suc (suc m))) + 2 ≡ suc (suc (suc (suc (m + 2)))) = omega arith in
    let e3 : suc (suc (suc (suc m))) + 3 ≡ suc (suc (suc (suc (m + 3)))) = omega arith in
    rw (e1, e2, e3) refl

groups_after : (dec s : List ℕ) (a b c d q : ℕ)
    → groups_bytes dec (a ∷ b ∷ c ∷ d ∷ s) (suc q) ≡ decode_group (get_or dec a 0) (get_or dec b 0) (get_or dec c 0) (get_or dec d 0) ++ groups_bytes dec s q
unfolding groups_bytes
groups_after dec s a b c d zero = refl
groups_after dec s a b c d (suc q) =
    let group = decode_group (get_or dec a 0) (get_or dec b 0) (get_or dec c 0) (get_or dec d 0) in
    let four : 4 * suc q ≡ suc (suc (suc (suc (4 * q)))) = omega arith in
    let last : group_bytes dec (a ∷ b ∷ c ∷ d ∷ s) (4 * suc q) ≡ group_bytes dec s (4 * q) = ap (group_bytes dec (a ∷ b ∷ c ∷ d ∷ s)) four ∙ group_after dec s a b c d (4 * q) in
    (λ i. groups_after dec s a b c d q i ++ last i) ∙ append_assoc group (groups_bytes dec s q) (group_bytes dec s (4 * q))

-- Four, three and two six bits are bytes.
four_are : (a b c d : ℕ) → decode_group a b c d ≡ (4 * a + b / 16) ∷ (b % 16 * 16 + c / 4) ∷ (c % 4 * 64 + d) ∷ []
four_are a b c d = let e : a * 4 + b / 16 ≡ 4 * a + b / 16 = omega arith in λ i. e i ∷ (b % 16 * 16 + c / 4) ∷ (c % 4 * 64 + d) ∷ []

-- The last group, of two, three or four symbols.
last_bytes : (dec s t : List ℕ) (at : ℕ) → drop at s ≡ t → AllRead dec t → 2 ≤ length t → length t ≤ 4
    → suffix_bytes dec 61 at s ≡ packed (map (λ b. get_or dec b 0) t)
unfolding scan_steps
last_bytes dec s [] at e r low high = absurd (omega arith)
last_bytes dec s (a ∷ []) at e r low high = absurd (omega arith)
last_bytes dec s (a ∷ b ∷ []) at e r low high =
    ap (λ u. scan_bytes (scan dec 61 at no_leftover 0 u)) e
    ∙ rw (scan_steps, push_leftover, r.0.plain, r.0.some, r.1.0.plain, r.1.0.some) (ap (take 1) (four_are (get_or dec a 0) (get_or dec b 0) 0 0))
last_bytes dec s (a ∷ b ∷ c ∷ []) at e r low high =
    ap (λ u. scan_bytes (scan dec 61 at no_leftover 0 u)) e
    ∙ rw (scan_steps, push_leftover, r.0.plain, r.0.some, r.1.0.plain, r.1.0.some, r.1.1.0.plain, r.1.1.0.some) (ap (take 2) (four_are (get_or dec a 0) (get_or dec b 0) (get_or dec c 0) 0))
last_bytes dec s (a ∷ b ∷ c ∷ d ∷ []) at e r low high =
    ap (λ u. scan_bytes (scan dec 61 at no_leftover 0 u)) e
    ∙ rw (scan_steps, push_leftover, r.0.plain, r.0.some, r.1.0.plain, r.1.0.some, r.1.1.0.plain, r.1.1.0.some, r.1.1.1.0.plain, r.1.1.1.0.some)
    (four_are (get_or dec a 0) (get_or dec b 0) (get_or dec c 0) (get_or dec d 0))
last_bytes dec s (a ∷ b ∷ c ∷ d ∷ x ∷ xs) at e r low high = absurd (omega arith)

last_fine : (dec s t : List ℕ) (at : ℕ) → drop at s ≡ t → AllRead dec t → 2 ≤ length t → length t ≤ 4
    → suffix_error dec 61 true Indifferent at s ≡ None
unfolding scan_steps
last_fine dec s [] at e r low high = absurd (omega arith)
last_fine dec s (a ∷ []) at e r low high = absurd (omega arith)
last_fine dec s (a ∷ b ∷ []) at e r low high =
    ap (λ u. scan_error (length s == 0) at true Indifferent (scan dec 61 at no_leftover 0 u)) e
    ∙ rw (scan_steps, push_leftover, r.0.plain, r.0.some, r.1.0.plain, r.1.0.some) (none (length s == 0))
  where
    none : (t : Bool) → cond (not t && false) (Some (InvalidLength (at + 2))) None ≡ None
    none true = refl
    none false = refl
last_fine dec s (a ∷ b ∷ c ∷ []) at e r low high =
    ap (λ u. scan_error (length s == 0) at true Indifferent (scan dec 61 at no_leftover 0 u)) e
    ∙ rw (scan_steps, push_leftover, r.0.plain, r.0.some, r.1.0.plain, r.1.0.some, r.1.1.0.plain, r.1.1.0.some) (none (length s == 0))
  where
    none : (t : Bool) → cond (not t && false) (Some (InvalidLength (at + 3))) None ≡ None
    none true = refl
    none false = refl
last_fine dec s (a ∷ b ∷ c ∷ d ∷ []) at e r low high =
    ap (λ u. scan_error (length s == 0) at true Indifferent (scan dec 61 at no_leftover 0 u)) e
    ∙ rw (scan_steps, push_leftover, r.0.plain, r.0.some, r.1.0.plain, r.1.0.some, r.1.1.0.plain, r.1.1.0.some, r.1.1.1.0.plain, r.1.1.1.0.some) (none (length s == 0))
  where
    none : (t : Bool) → cond (not t && false) (Some (InvalidLength (at + 4))) None ≡ None
    none true = refl
    none false = refl
last_fine dec s (a ∷ b ∷ c ∷ d ∷ x ∷ xs) at e r low high = absurd (omega arith)

-- Groups, and then a last one.
all_bytes : (dec : List ℕ) (q : ℕ) (s : List ℕ) → AllRead dec s → 4 * q + 2 ≤ length s → length s ≤ 4 * q + 4
    → groups_bytes dec s q ++ packed (map (λ b. get_or dec b 0) (drop (4 * q) s)) ≡ packed (map (λ b. get_or dec b 0) s)
unfolding groups_bytes
all_bytes dec zero s r low high = refl
all_bytes dec (suc q) [] r low high = absurd (omega arith)
all_bytes dec (suc q) (a ∷ []) r low high = absurd (omega arith)
all_bytes dec (suc q) (a ∷ b ∷ []) r low high = absurd (omega arith)
all_bytes dec (suc q) (a ∷ b ∷ c ∷ []) r low high = absurd (omega arith)
all_bytes dec (suc q) (a ∷ b ∷ c ∷ d ∷ s) r low high =
    let four : 4 * suc q ≡ suc (suc (suc (suc (4 * q)))) = omega arith in
    let later = packed (map (λ b. get_or dec b 0) (drop (4 * q) s)) in
    let group = decode_group (get_or dec a 0) (get_or dec b 0) (get_or dec c 0) (get_or dec d 0) in
    let rest : drop (4 * suc q) (a ∷ b ∷ c ∷ d ∷ s) ≡ drop (4 * q) s = ap (λ n. drop n (a ∷ b ∷ c ∷ d ∷ s)) four in
    ap (λ t. groups_bytes dec (a ∷ b ∷ c ∷ d ∷ s) (suc q) ++ packed (map (λ b. get_or dec b 0) t)) rest
    ∙ ap (λ t. t ++ later) (groups_after dec s a b c d q)
    ∙ append_assoc group (groups_bytes dec s q) later
    ∙ (λ i. four_are (get_or dec a 0) (get_or dec b 0) (get_or dec c 0) (get_or dec d 0) i ++ all_bytes dec q s r.1.1.1.1 (omega arith) (omega arith) i)

read_drop : (dec : List ℕ) (n : ℕ) (s : List ℕ) → AllRead dec s → AllRead dec (drop n s)
read_drop dec zero s r = r
read_drop dec (suc n) [] r = tt
read_drop dec (suc n) (x ∷ xs) r = read_drop dec n xs r.1

-- All that an engine says of symbols.
abbrev pub outcome : List ℕ → List ℕ → Type 0
outcome dec s = (decode_error dec 61 true Indifferent s ≡ None) × (decoded_bytes dec 61 s ≡ packed (sextets s))

not_one : (n : ℕ) → (n % 4 ≡ 1 → ⊥) → (n % 4 == 1) ≡ false
not_one n h = by (n % 4 == 1) refl
  where
    by : (t : Bool) → (n % 4 == 1) ≡ t → t ≡ false
    by true e = absurd (h (eqb-true (n % 4) 1 e))
    by false e = refl

whole : (dec s : List ℕ) → AllRead dec s → (length s % 4 ≡ 1 → ⊥) → outcome dec s
unfolding groups_error groups_bytes scan_steps
whole dec [] r h = (refl, refl)
whole dec (x ∷ xs) r h =
    let s = x ∷ xs in
    let n = length s in
    let q = (n - 1) / 4 in
    let other : n % 4 ≡ 1 → ⊥ = h in
    let low : 4 * q + 2 ≤ n = by (length xs) other in
    let high : n ≤ 4 * q + 4 = omega arith in
    let t = drop (4 * q) s in
    let len : length t ≡ n - 4 * q = length-drop (4 * q) s in
    let read : AllRead dec t = read_drop dec (4 * q) s r in
    let lone : (n % 4 == 1) ≡ false = not_one n h in
    let groups : groups_error dec s q ≡ None = groups_fine dec s q r (omega arith) in
    let fine : suffix_error dec 61 true Indifferent (4 * q) s ≡ None = last_fine dec s t (4 * q) refl read (omega arith) (omega arith) in
    let last : suffix_bytes dec 61 (4 * q) s ≡ packed (map (λ b. get_or dec b 0) t) = last_bytes dec s t (4 * q) refl read (omega arith) (omega arith) in
    let clear : lone_error dec 61 s ≡ None = no_lone (n % 4 == 1) lone (not (get_or s (n - 1) 0 == 61)) (get_or dec (get_or s (n - 1) 0) 0 == 255) (InvalidByte (n - 1) (get_or s (n - 1) 0)) in (
      (λ i. or_else (clear i) (or_else (groups i) (fine i))),
      ap (λ bytes. groups_bytes dec s q ++ bytes) last ∙ all_bytes dec q s r low high ∙ ap packed (sym (sextets_read dec s r)),
    )
  where
    by : (m : ℕ) → (suc m % 4 ≡ 1 → ⊥) → 4 * ((suc m - 1) / 4) + 2 ≤ suc m
    by m g =
        let q = (suc m - 1) / 4 in
        ⊎_elim (λ (l : 4 * q + 1 < suc m). omega arith) (λ (l : suc m ≤ 4 * q + 1). absurd (g (omega arith))) (cases_lt (4 * q + 1) (suc m))

    no_lone : (t : Bool) → t ≡ false → (u w : Bool) (e : DecodeError) → cond (t && u && w) (Some e) None ≡ None
    no_lone true e u w d = cc
    no_lone false e u w d = refl

-- The engine's answer.
inverse : (engine : GeneralPurpose) → IsLenient engine → (i : ℕ) → i < 64 → get_or engine.decode_table (get_or standard.encode_table i 0) 0 ≡ i
inverse engine l i low =
    let tables = and_parts _ _ engine.tables in
    let inner = and_parts _ _ tables.0 in
    let symbols : all_below (decodes_symbol engine.encode_table engine.decode_table) 64 ≡ true = (and_parts _ _ inner.1).0 in
    ap (λ enc. get_or engine.decode_table (get_or enc i 0) 0) (sym l.symbols)
    ∙ eqb-true _ i (below_all (decodes_symbol engine.encode_table engine.decode_table) 64 i symbols low)

pub decode_is : (engine : GeneralPurpose) → IsLenient engine → (s : List ℕ) → list_all is_symbol s ≡ true → length s % 4 ≢ 1 → decode_of engine s ≡ Ok (packed (sextets s))
decode_is engine l s symbols len =
    let dec = engine.decode_table in
    let all = whole dec s (all_read dec (inverse engine l) s symbols) len in
    (λ i. decode_outcome (decode_error dec (l.padding i) (l.trailing_bits i) (l.mode i) s) (decoded_bytes dec (l.padding i) s))
    ∙ (λ i. decode_outcome (all.0 i) (all.1 i))

abbrev pub ok : {E : Type 0} → List ℕ → Result (List ℕ) E
ok xs = Ok xs

pub ok-is : {E : Type 0} (xs ys : List ℕ) → ok {E = E} xs ≡ ok ys → xs ≡ ys
ok-is xs ys e = cc

pub not_err : {E : Type 0} (xs : List ℕ) (e : E) → ok xs ≡ Err e → ⊥
not_err xs e h = cc
