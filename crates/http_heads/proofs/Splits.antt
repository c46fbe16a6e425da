-- Bytes that are split at a byte.
use Rattle.std.proofs.Common.{◌≡◌, ℕ, zero, suc, ◌+◌, ◌<◌, true, false, eqb, List, [], ◌∷◌, length, take, drop, get_or, refl, arith}
use Rattle.std.proofs.lemmas.Bool.{false_from_ne_true}
use Rattle.http_heads.specs.Pieces.{pieces_of}

-- One byte more before the first piece.
split_cons : (stop b : ℕ) (bs piece : List ℕ) (more : List (List ℕ)) → eqb b stop ≡ false → pieces_of stop bs ≡ piece ∷ more → pieces_of stop (b ∷ bs) ≡ (b ∷ piece) ∷ more
split_cons stop b bs piece more e h = rw (e, h) refl

-- Without the byte there is one piece.
pub split-none : (stop : ℕ) (bs : List ℕ) → ((k : ℕ) → k < length bs → eqb (get_or bs k 0) stop ≡ true → ⊥) → pieces_of stop bs ≡ bs ∷ []
split-none stop [] h = refl
split-none stop (b ∷ bs) h =
    split_cons stop b bs bs [] (false_from_ne_true (eqb b stop) (h 0 (omega arith))) (split-none stop bs (λ k l. h (suc k) (omega arith)))

-- The first piece ends before the first such byte, and the others are those of the bytes after it.
pub split-some : (stop n : ℕ) (bs : List ℕ) → n < length bs → eqb (get_or bs n 0) stop ≡ true → ((k : ℕ) → k < n → eqb (get_or bs k 0) stop ≡ true → ⊥)
    → pieces_of stop bs ≡ take n bs ∷ pieces_of stop (drop (n + 1) bs)
split-some stop n [] h e none = absurd (omega arith)
split-some stop zero (b ∷ bs) h e none = rw e refl
split-some stop (suc n) (b ∷ bs) h e none =
    let next : suc n + 1 ≡ suc (n + 1) = omega arith in
    rw next (split_cons stop b bs (take n bs) (pieces_of stop (drop (n + 1) bs)) (false_from_ne_true (eqb b stop) (none 0 (omega arith))) (split-some stop n bs (omega arith) e (λ k l. none (suc k) (omega arith))))
