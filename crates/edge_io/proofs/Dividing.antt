-- Texts that are split at the first occurrence of a byte.
use Rattle.std.proofs.Common.{◌≡◌, ◌≢◌, ◌<◌, ◌≤◌, ◌+◌, ℕ, zero, suc, Bool, true, false, ◌==◌, List, [], ◌∷◌, ◌++◌, length, get_or, take, drop, refl, sym, ◌∙◌, ap, arith, take-append-drop, drop-cons, add-one}
use Rattle.std.proofs.lemmas.Bool.Decides.{nat_tests}
use Rattle.edge_io.specs.Parsing.{LacksByte}

false_from_not : (b : Bool) → (b ≡ true → ⊥) → b ≡ false
false_from_not true h = absurd (h refl)
false_from_not false h = refl

-- Two texts that lack a byte lack it when they are joined.
pub LacksByte-append : (c : ℕ) (a b : List ℕ) → LacksByte c a → LacksByte c b → LacksByte c (a ++ b)
LacksByte-append c [] b p q = q
LacksByte-append c (x ∷ a) b p q = (p.0, LacksByte-append c a b p.1 q)

-- A prefix lacks the byte if no index below its length has it.
pub LacksByte-take : (c : ℕ) (xs : List ℕ) (n : ℕ) → ((k : ℕ) → 0 ≤ k → k < n → (get_or xs k 0 == c) ≡ true → ⊥) → LacksByte c (take n xs)
LacksByte-take c xs zero h = tt
LacksByte-take c [] (suc n) h = tt
LacksByte-take c (x ∷ xs) (suc n) h =
    (false_from_not (x == c) (h 0 (omega arith) (omega arith)), LacksByte-take c xs n (λ k low high. h (suc k) (omega arith) (omega arith)))

-- A text lacks the byte if none of its indices has it.
pub LacksByte-all : (c : ℕ) (xs : List ℕ) → ((k : ℕ) → 0 ≤ k → k < length xs → (get_or xs k 0 == c) ≡ true → ⊥) → LacksByte c xs
LacksByte-all c [] h = tt
LacksByte-all c (x ∷ xs) h = (false_from_not (x == c) (h 0 (omega arith) (omega arith)), LacksByte-all c xs (λ k low high. h (suc k) (omega arith) (omega arith)))

-- A text that lacks a byte can't be split at it.
pub LacksByte-divided : (c : ℕ) (text a r : List ℕ) → LacksByte c text → text ≢ a ++ c ∷ r
LacksByte-divided c [] [] r p e = cc
LacksByte-divided c [] (y ∷ a) r p e = cc
LacksByte-divided c (x ∷ xs) [] r p e = let same : x ≡ c = cc in let not : (x == c) ≡ false = p.0 in grind (arith, nat_tests)
LacksByte-divided c (x ∷ xs) (y ∷ a) r p e = let rest : xs ≡ a ++ c ∷ r = cc in LacksByte-divided c xs a r p.1 rest

-- There is one way to split a text at the first occurrence of a byte.
pub divided-once : (c : ℕ) (a b r s : List ℕ) → LacksByte c a → LacksByte c b → a ++ c ∷ r ≡ b ++ c ∷ s → (a ≡ b) × (r ≡ s)
divided-once c [] [] r s p q e = (refl, cc)
divided-once c [] (y ∷ b) r s p q e = let same : y ≡ c = cc in let not : (y == c) ≡ false = q.0 in absurd (grind (arith, nat_tests))
divided-once c (x ∷ a) [] r s p q e = let same : x ≡ c = cc in let not : (x == c) ≡ false = p.0 in absurd (grind (arith, nat_tests))
divided-once c (x ∷ a) (y ∷ b) r s p q e =
    let rest : a ++ c ∷ r ≡ b ++ c ∷ s = cc in
    let head : x ≡ y = cc in
    let tail = divided-once c a b r s p.1 q.1 rest in
    (let l : a ≡ b = tail.0 in cc, tail.1)

-- The same for two splits of a given text.
pub same_parts : (c : ℕ) (text a r b s : List ℕ) → LacksByte c a → text ≡ a ++ c ∷ r → LacksByte c b → text ≡ b ++ c ∷ s → (a ≡ b) × (r ≡ s)
same_parts c text a r b s p is q same = divided-once c a b r s p q (sym is ∙ same)

-- A text is what comes before a found byte, the byte, and what comes after it.
pub divided-at : (c : ℕ) (xs : List ℕ) (k : ℕ) → k < length xs → (get_or xs k 0 == c) ≡ true → xs ≡ take k xs ++ c ∷ drop (k + 1) xs
divided-at c xs k within here =
    let byte : get_or xs k 0 ≡ c = grind (arith, nat_tests) in
    let back : drop k xs ≡ c ∷ drop (k + 1) xs = rw add-one (drop-cons xs k 0 within ∙ ap (λ b. b ∷ drop (suc k) xs) byte) in
    sym (take-append-drop k xs) ∙ ap (λ t. take k xs ++ t) back
