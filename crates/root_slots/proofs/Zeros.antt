-- Zeros after what is written.
use Rattle.std.specs.Prelude.{◌≡◌, ℕ, ◌+◌, ◌-◌, ◌≤◌, List, ◌++◌, length, take, drop, replicate}
use Rattle.std.proofs.Common.{◌∙◌, sym, ap, arith, length-take}
use Rattle.std.proofs.Math.Seq.{take-add}
use Rattle.std.proofs.lemmas.List.{drop-drop, drop-replicate, take-replicate}

-- The bytes after a later offset are zeros too.
pub zeros_after : (bytes : List ℕ) (at n : ℕ) → drop at bytes ≡ replicate (1536 - at) 0 → drop (at + n) bytes ≡ replicate (1536 - (at + n)) 0
zeros_after bytes at n zeros = sym (drop-drop n at bytes) ∙ (ap (λ (b : List ℕ). drop n b) zeros ∙ (drop-replicate n (1536 - at) 0 ∙ ap (λ (k : ℕ). replicate k 0) (omega arith)))

-- Some of the zeros count as written.
pub zeros_taken : (bytes : List ℕ) (at n : ℕ) → at + n ≤ 1536 → drop at bytes ≡ replicate (1536 - at) 0 → take (at + n) bytes ≡ take at bytes ++ replicate n 0
zeros_taken bytes at n inside zeros = take-add at n bytes ∙ ap (λ (b : List ℕ). take at bytes ++ b) (ap (λ (b : List ℕ). take n b) zeros ∙ take-replicate n (1536 - at) 0 (omega arith))

-- The number of bytes written.
pub written_length : (bytes view : List ℕ) (at : ℕ) → view ≡ take at bytes → at ≤ length bytes → length view ≡ at
written_length bytes view at is inside = let size = ap (λ (b : List ℕ). length b) is in omega (arith, size, inside, length-take {A = ℕ})
