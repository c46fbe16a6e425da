-- A list, split at the last byte of a kind.
use Rattle.std.proofs.Common.{◌≡◌, ℕ, zero, suc, ◌+◌, ◌<◌, ◌≤◌, Bool, true, false, List, [], ◌∷◌, None, Some, length, get_or, take, drop, refl, arith, add-one}
use Rattle.memchr.specs.Find.{IsLastByte, is_byte}
use Rattle.mail_address.specs.Splits.{split_last, is_this}

false_from : (b : Bool) → (b ≡ true → ⊥) → b ≡ false
false_from true h = absurd (h refl)
false_from false h = refl

-- No element passes.
split_last-none : (p : ℕ → Bool) (xs : List ℕ) → ((k : ℕ) → 0 ≤ k → k < length xs → p (get_or xs k 0) ≡ true → ⊥) → split_last p xs ≡ None
split_last-none p [] none = refl
split_last-none p (x ∷ xs) none =
    let later : split_last p xs ≡ None = split_last-none p xs (λ k low high e. none (suc k) (omega arith) (omega arith) e) in
    let here : p x ≡ false = false_from (p x) (λ e. none 0 (omega arith) (omega arith) e) in
    rw (later, here) refl

-- One element passes, and none after it.
split_last-at : (p : ℕ → Bool) (xs : List ℕ) (k : ℕ) → k < length xs → ((m : ℕ) → k + 1 ≤ m → m < length xs → p (get_or xs m 0) ≡ true → ⊥)
    → p (get_or xs k 0) ≡ true → split_last p xs ≡ Some (take k xs, drop (suc k) xs)
split_last-at p [] k within none e = absurd (omega arith)
split_last-at p (x ∷ xs) zero within none e =
    let later : split_last p xs ≡ None = split_last-none p xs (λ k low high f. none (suc k) (omega arith) (omega arith) f) in
    rw (later, e) refl
split_last-at p (x ∷ xs) (suc k) within none e =
    let later : split_last p xs ≡ Some (take k xs, drop (suc k) xs) = split_last-at p xs k (omega arith) (λ m low high f. none (suc m) (omega arith) (omega arith) f) e in
    rw later refl

-- The result of a search from the end.
pub split_last-found : (c : ℕ) (xs : List ℕ) (k : ℕ) → IsLastByte (is_byte c) xs (Some k) → split_last (is_this c) xs ≡ Some (take k xs, drop (k + 1) xs)
split_last-found c xs k last = rw (add-one k) (split_last-at (is_this c) xs k last.0.high last.0.after last.1)

pub split_last-missing : (c : ℕ) (xs : List ℕ) → IsLastByte (is_byte c) xs None → split_last (is_this c) xs ≡ None
split_last-missing c xs none = split_last-none (is_this c) xs none
