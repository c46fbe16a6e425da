-- Bytes without a run at their end, and bytes that don't contain a byte.
use Rattle.std.proofs.Common.{◌≡◌, ℕ, ◌+◌, ◌-◌, ◌<◌, ◌≤◌, zero, suc, Bool, true, false, cond, eqb, ◌&&◌, List, [], ◌∷◌, ◌++◌, length, take, drop, get_or, Option, None, Some, MatchOption, refl, sym, ap, ◌∙◌, arith}
use Rattle.std.proofs.lemmas.Bool.{eqb-true, and_parts, false_from_ne_true, eq-eqb, true≢false}
use Rattle.std.proofs.lemmas.List.{take-append-drop, drop_more}
use Rattle.memchr.specs.Find.{IsFirstByte, is_byte}
use Rattle.mail_reader.specs.Fields.{without_feed}
use Rattle.mail_reader.specs.Stored.{all_of, without_end}

-- The byte `c` isn't among the bytes.
abbrev pub NoByte : ℕ → List ℕ → Type 0
NoByte c [] = Unit {0}
NoByte c (b ∷ bs) = (eqb b c ≡ false) × NoByte c bs

-- No line feed is among the bytes.
abbrev pub NoFeed : List ℕ → Type 0
NoFeed = NoByte 10

-- A run alone leaves nothing.
pub all_of-none_left : (c : ℕ) (xs : List ℕ) → all_of c xs ≡ true → without_end c xs ≡ []
all_of-none_left c [] h = refl
all_of-none_left c (b ∷ bs) h = rw h refl

pub all_of-append : (c : ℕ) (xs ys : List ℕ) → all_of c ys ≡ true → all_of c (xs ++ ys) ≡ all_of c xs
all_of-append c [] ys h = h
all_of-append c (x ∷ xs) ys h = ap (λ t. eqb x c && t) (all_of-append c xs ys h)

pub all_of-append_not : (c : ℕ) (xs ys : List ℕ) → all_of c ys ≡ false → all_of c (xs ++ ys) ≡ false
all_of-append_not c [] ys h = h
all_of-append_not c (x ∷ xs) ys h = rw (all_of-append_not c xs ys h) (no_more (eqb x c))
  where
    no_more : (t : Bool) → (t && false) ≡ false
    no_more true = refl
    no_more false = refl

-- One byte of the run at the end is removed.
pub without_end-push : (c : ℕ) (xs : List ℕ) → without_end c (xs ++ c ∷ []) ≡ without_end c xs
without_end-push c [] = rw (eq-eqb c c refl) refl
without_end-push c (x ∷ xs) =
    rw (all_of-append c xs (c ∷ []) (rw (eq-eqb c c refl) refl)) (ap (λ w. cond (eqb x c && all_of c xs) [] (x ∷ w)) (without_end-push c xs))

-- Any other byte at the end stays.
pub without_end-push_other : (c : ℕ) (xs : List ℕ) (y : ℕ) → eqb y c ≡ false → without_end c (xs ++ y ∷ []) ≡ xs ++ y ∷ []
without_end-push_other c [] y h = rw h refl
without_end-push_other c (x ∷ xs) y h =
    rw (all_of-append_not c xs (y ∷ []) (rw h refl)) (step (eqb x c) x _ _ (without_end-push_other c xs y h))
  where
    step : (t : Bool) (b : ℕ) (v w : List ℕ) → v ≡ w → cond (t && false) [] (b ∷ v) ≡ b ∷ w
    step true b v w e = ap (λ v. b ∷ v) e
    step false b v w e = ap (λ v. b ∷ v) e

-- A list that isn't empty is its front and its last element.
pub front_and_last : (xs : List ℕ) → 0 < length xs → xs ≡ take (length xs - 1) xs ++ get_or xs (length xs - 1) 0 ∷ []
front_and_last [] h = absurd (omega arith)
front_and_last (x ∷ []) h = refl
front_and_last (x ∷ y ∷ ys) h =
    let e : suc (suc (length ys)) - 1 ≡ suc (suc (length ys) - 1) = omega arith in
    rw e (ap (λ zs. x ∷ zs) (front_and_last (y ∷ ys) (omega arith)))

-- Bytes whose last one is another stay.
pub without_end-last : (c : ℕ) (xs : List ℕ) → eqb (get_or xs (length xs - 1) 0) c ≡ false → without_end c xs ≡ xs
without_end-last c [] h = refl
without_end-last c (x ∷ xs) h =
    let split = front_and_last (x ∷ xs) (omega arith) in
    ap (without_end c) split ∙ without_end-push_other c (take (length (x ∷ xs) - 1) (x ∷ xs)) (get_or (x ∷ xs) (length (x ∷ xs) - 1) 0) h ∙ sym split

-- A byte that isn't there isn't there after a trim.
pub NoByte-without_end : (c d : ℕ) (xs : List ℕ) → NoByte c xs → NoByte c (without_end d xs)
NoByte-without_end c d [] h = tt
NoByte-without_end c d (x ∷ xs) h = step (eqb x d && all_of d xs) x _ h.0 (NoByte-without_end c d xs h.1)
  where
    step : (t : Bool) (b : ℕ) (w : List ℕ) → eqb b c ≡ false → NoByte c w → NoByte c (cond t [] (b ∷ w))
    step true b w h i = tt
    step false b w h i = (h, i)

-- If all bytes are `c` after a trim, they are before it.
all_of-trimmed : (c : ℕ) (xs : List ℕ) → all_of c (without_end c xs) ≡ true → all_of c xs ≡ true
all_of-trimmed c [] h = refl
all_of-trimmed c (x ∷ xs) h = step (eqb x c) (all_of c xs) x (without_end c xs) refl h (all_of-trimmed c xs)
  where
    step : (t a : Bool) (b : ℕ) (w : List ℕ) → eqb b c ≡ t → all_of c (cond (t && a) [] (b ∷ w)) ≡ true → (all_of c w ≡ true → a ≡ true) → (t && a) ≡ true
    step true true b w e h k = refl
    step true false b w e h k = k (and_parts (eqb b c) (all_of c w) h).1
    step false a b w e h k = sym e ∙ (and_parts (eqb b c) (all_of c w) h).0

-- A trim leaves nothing more to trim.
pub without_end-twice : (c : ℕ) (xs : List ℕ) → without_end c (without_end c xs) ≡ without_end c xs
without_end-twice c [] = refl
without_end-twice c (x ∷ xs) =
    step (eqb x c) (all_of c xs) x (without_end c xs) refl (without_end-twice c xs) (all_of-trimmed c xs)
  where
    step : (t a : Bool) (b : ℕ) (w : List ℕ) → eqb b c ≡ t → without_end c w ≡ w → (all_of c w ≡ true → a ≡ true) → without_end c (cond (t && a) [] (b ∷ w)) ≡ cond (t && a) [] (b ∷ w)
    step true true b w e i k = refl
    step true false b w e i k =
        let no : all_of c w ≡ false = false_from_ne_true (all_of c w) (λ q. true≢false (sym (k q))) in
        rw (e, no) (ap (λ v. b ∷ v) i)
    step false a b w e i k = rw e (ap (λ v. b ∷ v) i)

-- The byte isn't before an index.
pub NoByte-take : (c : ℕ) (xs : List ℕ) (n : ℕ) → ((k : ℕ) → 0 ≤ k → k < n → eqb (get_or xs k 0) c ≡ true → ⊥) → NoByte c (take n xs)
NoByte-take c [] zero h = tt
NoByte-take c [] (suc n) h = tt
NoByte-take c (x ∷ xs) zero h = tt
NoByte-take c (x ∷ xs) (suc n) h =
    (false_from_ne_true (eqb x c) (h 0 (omega arith) (omega arith)), NoByte-take c xs n (λ k l m. h (suc k) (omega arith) (omega arith)))

pub NoByte-all : (c : ℕ) (xs : List ℕ) → ((k : ℕ) → 0 ≤ k → k < length xs → eqb (get_or xs k 0) c ≡ true → ⊥) → NoByte c xs
NoByte-all c [] h = tt
NoByte-all c (x ∷ xs) h =
    (false_from_ne_true (eqb x c) (h 0 (omega arith) (omega arith)), NoByte-all c xs (λ k l m. h (suc k) (omega arith) (omega arith)))

-- The result of `memchr`: no such byte, or its index, with none before it, the byte there, and both
-- splits.
pub NoByte-before : (c : ℕ) (xs : List ℕ) (r : Option ℕ) → IsFirstByte (is_byte c) xs r
    → MatchOption r (NoByte c xs) (λ k. (k < length xs) × NoByte c (take k xs) × (get_or xs k 0 ≡ c) × (drop k xs ≡ c ∷ drop (k + 1) xs) × (xs ≡ take k xs ++ c ∷ drop (k + 1) xs))
NoByte-before c xs None h = NoByte-all c xs h
NoByte-before c xs (Some k) h =
    let here : get_or xs k 0 ≡ c = eqb-true (get_or xs k 0) c h.1 in
    let rest : drop k xs ≡ c ∷ drop (k + 1) xs = drop_more xs k 0 h.0.high ∙ ap (λ b. b ∷ drop (k + 1) xs) here in
    (h.0.high, NoByte-take c xs k h.0.before, here, rest, sym (take-append-drop k xs) ∙ ap (λ t. take k xs ++ t) rest)

-- A line feed at the end is dropped.
pub without_feed-push : (xs : List ℕ) → without_feed (xs ++ 10 ∷ []) ≡ xs
without_feed-push [] = refl
without_feed-push (x ∷ []) = refl
without_feed-push (x ∷ y ∷ ys) = ap (λ zs. x ∷ zs) (without_feed-push (y ∷ ys))

-- Any other byte there stays.
pub without_feed-last : (xs : List ℕ) → eqb (get_or xs (length xs - 1) 0) 10 ≡ false → without_feed xs ≡ xs
without_feed-last [] h = refl
without_feed-last (x ∷ []) h = rw h refl
without_feed-last (x ∷ y ∷ ys) h =
    let e : suc (suc (length ys)) - 1 ≡ suc (suc (length ys) - 1) = omega arith in
    ap (λ zs. x ∷ zs) (without_feed-last (y ∷ ys) (rw e at h))
