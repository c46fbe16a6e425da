-- Bytes split at the first occurrence of a byte.
use Rattle.std.proofs.Common.{◌≡◌, ◌<◌, ◌+◌, ℕ, zero, suc, List, [], ◌∷◌, ◌++◌, length, get_or, take, drop, Option, Some, None, MatchOption, refl, sym, ap, ◌∙◌, arith, tests, rules}
use Rattle.std.proofs.lemmas.List.{drop_more, take-append-drop}
use Rattle.memchr.specs.Find.{IsFirstByte, is_byte}
use Rattle.git_objects.specs.Fronts.{NoByte}

-- No byte of a prefix is c.
pub NoByte-take : (c : ℕ) (xs : List ℕ) (n : ℕ) → ((k : ℕ) → k < n → get_or xs k 0 ≡ c → ⊥) → NoByte c (take n xs)
NoByte-take c xs zero h = tt
NoByte-take c [] (suc n) h = tt
NoByte-take c (x ∷ xs) (suc n) h = (λ e. h 0 (omega arith) e, NoByte-take c xs n (λ k below e. h (suc k) (omega arith) e))

-- No byte at all is c.
pub NoByte-all : (c : ℕ) (xs : List ℕ) → ((k : ℕ) → k < length xs → get_or xs k 0 ≡ c → ⊥) → NoByte c xs
NoByte-all c [] h = tt
NoByte-all c (x ∷ xs) h = (λ e. h 0 (omega arith) e, NoByte-all c xs (λ k below e. h (suc k) (omega arith) e))

-- No byte of two joined lists is c.
pub NoByte-append : (c : ℕ) (xs ys : List ℕ) → NoByte c xs → NoByte c ys → NoByte c (xs ++ ys)
NoByte-append c [] ys h k = k
NoByte-append c (x ∷ xs) ys h k = (h.0, NoByte-append c xs ys h.1 k)

-- A list with c in it does not lack c.
pub NoByte-at : (c : ℕ) (xs rest : List ℕ) → NoByte c (xs ++ c ∷ rest) → ⊥
NoByte-at c [] rest h = h.0 refl
NoByte-at c (x ∷ xs) rest h = NoByte-at c xs rest h.1

-- Bytes are split at the first c in one way.
pub parted-once : (c : ℕ) (xs ys x y : List ℕ) → NoByte c xs → NoByte c ys → xs ++ c ∷ x ≡ ys ++ c ∷ y → (xs ≡ ys) × (x ≡ y)
parted-once c [] [] x y h k e = (refl, cc)
parted-once c [] (b ∷ ys) x y h k e = let same : b ≡ c = cc in absurd (k.0 same)
parted-once c (b ∷ xs) [] x y h k e = let same : b ≡ c = cc in absurd (h.0 same)
parted-once c (a ∷ xs) (b ∷ ys) x y h k e =
    let heads : a ≡ b = cc in
    let tails : xs ++ c ∷ x ≡ ys ++ c ∷ y = cc in
    let rest = parted-once c xs ys x y h.1 k.1 tails in (cc, rest.1)

-- The result of a search for the first c: there is none, or the bytes are split there.
pub parted-at : (c : ℕ) (bytes : List ℕ) (found : Option ℕ) → IsFirstByte (is_byte c) bytes found
    → MatchOption found (NoByte c bytes)
    (λ at. (at < length bytes) × NoByte c (take at bytes) × (bytes ≡ take at bytes ++ c ∷ drop (at + 1) bytes))
parted-at c bytes None h = NoByte-all c bytes (λ k below e. h k (omega arith) below (search (rules, tests)))
parted-at c bytes (Some at) h =
    let here : get_or bytes at 0 ≡ c = search (rules, tests) in
    let within : at < length bytes = h.0.high in
    let after : drop at bytes ≡ c ∷ drop (at + 1) bytes = drop_more bytes at 0 within ∙ ap (λ b. b ∷ drop (at + 1) bytes) here in (
      within,
      NoByte-take c bytes at (λ k below e. h.0.before k (omega arith) below (search (rules, tests))),
      sym (take-append-drop at bytes) ∙ ap (λ l. take at bytes ++ l) after,
    )
